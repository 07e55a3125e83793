-- Keys, rows and changes, as contracts see them: texts are lists of bytes.
use Rattle.std.specs.Prelude.{ℕ, List, Option, Some, None}
use Rattle.std.specs.declared.cmp.Ordering.{Ordering}
use Rattle.std.specs.Ordering.{nat_cmp, ordering_then}
use Rattle.std.specs.Cmp.Lexicographic.{slice_cmp}

-- a kind, which is the code of a letter, and a text
pub record Key : Type 0 where
  pub kind : ℕ
  pub text : List ℕ

-- the kind decides, and where the kinds are equal the texts do, byte by byte
abbrev pub key_cmp : Key → Key → Ordering
key_cmp a b = ordering_then (nat_cmp a.kind b.kind) (slice_cmp nat_cmp a.text b.text)

-- a body at a key
pub record Row : Type 0 where
  pub key : Key
  pub body : List ℕ

-- a body that is put at a key, or None: the key's row is deleted
pub record Change : Type 0 where
  pub key : Key
  pub body : Option (List ℕ)

-- a batch: the place it is of, its changes, and how many more have room
pub record Batch : Type 0 where
  pub place : ℕ
  pub changes : List Change
  pub spare : ℕ

-- the put of a body at a key
abbrev pub puts : Key → List ℕ → Change
puts key body = record { key = key; body = Some body }

-- the delete of a key's row
abbrev pub deletes : Key → Change
deletes key = record { key = key; body = None }
