-- Hand-outs by name, as contracts see them.
use Rattle.std.specs.Prelude.{◌≡◌, ℕ, ◌<◌, ◌≤◌, Bool, nat_lt, List, [], ◌∷◌, length, map, filter, slice_get, slice_index_or, Option, Some, option_map}
use Rattle.std.specs.List.{All, Contains, find}
use Rattle.std.specs.Cmp.Lexicographic.{slice_cmp}
use Rattle.std.specs.Ordering.{nat_cmp}
use Rattle.std.specs.declared.cmp.Ordering.TheVariants.{Less, Greater}
use Rattle.wf_machine.specs.declared.sight.HandList.{HandList}
use Rattle.wf_machine.specs.Text.{same_text}

-- the lists of hand-outs in the order of their names, and the names of which a hand-out can be noted without memory
pub record Book : Type 0 where
  pub lists : List HandList
  pub ready : List (List ℕ)

-- a hand-out of the name can be noted
abbrev pub HasHandRoom : List ℕ → Book → Type 0
HasHandRoom name book = Contains book.ready name

-- the moments of the name, where there are any
abbrev pub hands_of : List ℕ → List HandList → Option (List ℕ)
hands_of name lists = option_map (λ (h : HandList). h.moments) (find (λ (h : HandList). same_text h.name name) lists)

-- ---- the rows that are kept: one for each name that is ready

abbrev pub row_name : HandList → List ℕ
row_name h = h.name

abbrev pub was_handed_out : HandList → Bool
was_handed_out h = nat_lt 0 (length h.moments)

-- the lists are the rows with hand-outs
abbrev pub book : List HandList → Book
book rows = record { lists = filter was_handed_out rows; ready = map row_name rows }

abbrev pub IsNameBefore : List ℕ → List ℕ → Type 0
IsNameBefore a b = slice_cmp nat_cmp a b ≡ Less

-- each name comes before all that follow it
abbrev pub NamesRise : List (List ℕ) → Type 0
NamesRise [] = Unit {0}
NamesRise (n ∷ ns) = All (IsNameBefore n) ns × NamesRise ns

-- the name stands at that place
abbrev pub IsNameAt : List ℕ → List (List ℕ) → ℕ → Type 0
IsNameAt name names place = slice_get names place ≡ Some name

-- the name belongs to that place: those before it are lesser, those from it on greater
pub record IsGap (name : List ℕ) (names : List (List ℕ)) (place : ℕ) : Type 0 where
  pub within : place ≤ length names
  pub lesser : (j : ℕ) (d : List ℕ) → j < length names → j < place → slice_cmp nat_cmp (slice_index_or names j d) name ≡ Less
  pub greater : (j : ℕ) (d : List ℕ) → place ≤ j → j < length names → slice_cmp nat_cmp (slice_index_or names j d) name ≡ Greater
