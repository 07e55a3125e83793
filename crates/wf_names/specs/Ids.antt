-- The ids that name workflows and tasks to the outside: UUIDs of version 8 (RFC 9562).
use Rattle.std.specs.Prelude.{◌≡◌, ℕ, ◌<◌, ◌^◌, List, [], ◌∷◌, ◌++◌, Option, Some, take, drop, bytes_eq, find, option_and_then}
use Rattle.std.specs.Int.{w32, w64, to_be_bytes, from_be_bytes}
use Rattle.uuid.specs.Text.{lower, hyphenated_text, parsed}
use Rattle.wf_names.specs.declared.ids.IdKind.{IdKind}
use Rattle.wf_names.specs.declared.ids.IdKind.TheVariants.{Flow, Task}

-- the octet that tells what an id names
abbrev pub kind_octet : IdKind → ℕ
kind_octet Flow = 1
kind_octet Task = 2

-- the sixteen octets of an id: the store's mark (four octets, big-endian), the kind, 0, the version 8
-- (80 hexadecimal, then 0), the variant (80 hexadecimal), the number (seven octets, big-endian)
abbrev pub layout : ℕ → IdKind → ℕ → List ℕ
layout mark kind number =
    to_be_bytes w32 mark ++ kind_octet kind ∷ 0 ∷ 0x80 ∷ 0 ∷ 0x80 ∷ drop 1 (to_be_bytes w64 number)

-- the text of an id: hyphenated, in lower case
unfoldable pub id_text : ℕ → IdKind → ℕ → List ℕ
id_text mark kind number = hyphenated_text lower (layout mark kind number)

-- a text names this number of this kind in the store with this mark: it is a UUID with that layout,
-- in any of the four forms and in either case
pub record Names (text : List ℕ) (mark : ℕ) (kind : IdKind) (number : ℕ) : Type 0 where
  pub mark_fits : mark < 2 ^ 32
  pub number_fits : number < 2 ^ 56
  pub octets : parsed text ≡ Some (layout mark kind number)

-- the mark and the number that stand at their places in octets
abbrev pub mark_in : List ℕ → ℕ
mark_in octets = from_be_bytes w32 (take 4 octets)

abbrev pub number_in : List ℕ → ℕ
number_in octets = from_be_bytes w64 (0 ∷ drop 9 octets)

-- what octets name: their mark and number as a flow or as a task, whichever has them as its layout
unfoldable pub id_in : List ℕ → Option (ℕ × IdKind × ℕ)
id_in octets =
    find (λ (id : ℕ × IdKind × ℕ). bytes_eq (layout id.0 id.1 id.2) octets)
    ((mark_in octets, Flow, number_in octets) ∷ (mark_in octets, Task, number_in octets) ∷ [])

-- what a text names
unfoldable pub id_read : List ℕ → Option (ℕ × IdKind × ℕ)
id_read text = option_and_then id_in (parsed text)
