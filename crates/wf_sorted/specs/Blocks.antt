-- Sorted entries in blocks, one block after another.
use Rattle.std.specs.Prelude.{◌≡◌, ℕ, suc, ◌<◌, Bool, true, false, ◌&&◌, List, [], ◌∷◌, ◌++◌, length, slice_index_or}
use Rattle.wf_sorted.specs.declared.entry.Entry.{Entry}
use Rattle.wf_sorted.specs.Order.{is_before, Rising}

-- the entries of all blocks, block after block
abbrev pub entries_of : List (List Entry) → List Entry
entries_of [] = []
entries_of (block ∷ rest) = block ++ entries_of rest

-- each block has an entry
abbrev pub NoneEmpty : List (List Entry) → Type 0
NoneEmpty [] = Unit {0}
NoneEmpty (block ∷ rest) = (0 < length block) × NoneEmpty rest

-- blocks of entries that rise from block to block, none of them empty
pub record AreBlocks (blocks : List (List Entry)) : Type 0 where
  pub rising : Rising (entries_of blocks)
  pub some : NoneEmpty blocks

-- each of the entries comes before this one
abbrev pub all_before : Entry → List Entry → Bool
all_before entry [] = true
all_before entry (x ∷ rest) = is_before x entry && all_before entry rest

-- the entry belongs to the block at this place: those in front of it end before the entry, and it doesn't, unless it is the last
pub record IsBlockFor (entry : Entry) (blocks : List (List Entry)) (i : ℕ) : Type 0 where
  pub before : (j : ℕ) (d : List Entry) → j < i → all_before entry (slice_index_or blocks j d) ≡ true
  pub here : (d : List Entry) → suc i < length blocks → all_before entry (slice_index_or blocks i d) ≡ false
