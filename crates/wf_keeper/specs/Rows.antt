-- Tables as the list of their rows, and what changes make of them.
use Rattle.std.specs.Prelude.{◌≡◌, ℕ, ◌<◌, ◌≤◌, List, [], ◌∷◌, fold, length, slice_index_or, Option, Some, None, Result, Ok, Err}
use Rattle.std.specs.declared.cmp.Ordering.TheVariants.{Less, Equal, Greater}
use Rattle.std.specs.Ordering.{match_ordering}
use Rattle.wf_keeper.specs.Keys.{Key, Row, Change, key_cmp}

abbrev pub Rows : Type 0
Rows = List Row

abbrev pub row : Key → List ℕ → Row
row key body = record { key = key; body = body }

-- each row's key comes after this one
abbrev pub AllAfter : Key → Rows → Type 0
AllAfter key [] = Unit {0}
AllAfter key (r ∷ rest) = (key_cmp key r.key ≡ Less) × AllAfter key rest

-- the keys rise, so none comes twice
abbrev pub IsOrdered : Rows → Type 0
IsOrdered [] = Unit {0}
IsOrdered (r ∷ rest) = AllAfter r.key rest × IsOrdered rest

-- the body at the key, None where no row has it
abbrev pub get : Key → Rows → Option (List ℕ)
get key [] = None
get key (r ∷ rest) = match_ordering (key_cmp key r.key) None (Some r.body) (get key rest)

-- the rows with the body at the key, in the place of one that was there
abbrev pub put : Key → List ℕ → Rows → Rows
put key body [] = row key body ∷ []
put key body (r ∷ rest) = match_ordering (key_cmp key r.key) (row key body ∷ r ∷ rest) (row key body ∷ rest) (r ∷ put key body rest)

-- the rows without the one at the key
abbrev pub without : Key → Rows → Rows
without key [] = []
without key (r ∷ rest) = match_ordering (key_cmp key r.key) (r ∷ rest) rest (r ∷ without key rest)

-- the rows after one change
abbrev pub changed_by : Key → Option (List ℕ) → Rows → Rows
changed_by key (Some body) rows = put key body rows
changed_by key None rows = without key rows

abbrev pub changed : Rows → Change → Rows
changed rows change = changed_by change.key change.body rows

-- the rows after the changes, made in their order
abbrev pub applied : List Change → Rows → Rows
applied changes rows = fold changed rows changes

-- the row at place i has the key
pub record IsAt (key : Key) (rows : Rows) (i : ℕ) : Type 0 where
  pub bound : i < length rows
  pub same : (d : Row) → let r = slice_index_or rows i d in key_cmp r.key key ≡ Equal

-- a row of the key belongs before the one at place i: those in front come before it, and the others after it
pub record IsGap (key : Key) (rows : Rows) (i : ℕ) : Type 0 where
  pub bound : i ≤ length rows
  pub below : (j : ℕ) (d : Row) → j < i → let r = slice_index_or rows j d in key_cmp r.key key ≡ Less
  pub above : (j : ℕ) (d : Row) → i ≤ j → j < length rows → let r = slice_index_or rows j d in key_cmp r.key key ≡ Greater

-- what a search for the key finds
abbrev pub IsSearched : Key → Rows → Result ℕ ℕ → Type 0
IsSearched key rows (Ok i) = IsAt key rows i
IsSearched key rows (Err i) = IsGap key rows i
