-- Entries by moment and then by number, and what stands among them.
use Rattle.std.specs.Prelude.{◌≡◌, ℕ, ◌==◌, Bool, false, ◌&&◌, ◌||◌, if◌then◌else◌, List, [], ◌∷◌, filter, Option, None, Some}
use Rattle.std.specs.Bool.{nat_lt, nat_le}
use Rattle.wf_sorted.specs.declared.entry.Entry.{Entry}

-- entries in their order, and how many more have room
pub record SortedRoom : Type 0 where
  pub entries : List Entry
  pub spare : ℕ

-- its moment is less, or is the same and its number is less
abbrev pub is_before : Entry → Entry → Bool
is_before a b = nat_lt a.moment b.moment || (a.moment == b.moment && nat_lt a.number b.number)

abbrev pub is_same : Entry → Entry → Bool
is_same a b = a.moment == b.moment && a.number == b.number

-- none of the entries comes before this one
abbrev pub NoneBefore : Entry → List Entry → Type 0
NoneBefore entry [] = Unit {0}
NoneBefore entry (x ∷ rest) = (is_before x entry ≡ false) × NoneBefore entry rest

-- no entry comes before one that stands in front of it
abbrev pub Rising : List Entry → Type 0
Rising [] = Unit {0}
Rising (x ∷ rest) = NoneBefore x rest × Rising rest

-- the entry stands in the list
abbrev pub holds : Entry → List Entry → Bool
holds entry [] = false
holds entry (x ∷ rest) = is_same x entry || holds entry rest

-- the list with the entry in front of the first that doesn't come before it
abbrev pub put : Entry → List Entry → List Entry
put entry [] = entry ∷ []
put entry (x ∷ rest) = if is_before x entry then x ∷ put entry rest else entry ∷ x ∷ rest

-- the list without the entry where it stands first
abbrev pub without : Entry → List Entry → List Entry
without entry [] = []
without entry (x ∷ rest) = if is_same x entry then rest else x ∷ without entry rest

-- the entries whose moment is at most this one
abbrev pub passed : ℕ → List Entry → List Entry
passed moment entries = filter (λ entry. nat_le entry.moment moment) entries

-- the entry, or the other where that comes before it
abbrev pub lesser : Entry → Option Entry → Entry
lesser x None = x
lesser x (Some y) = if is_before y x then y else x

-- the least of all entries
abbrev pub least : List Entry → Option Entry
least [] = None
least (x ∷ rest) = Some (lesser x (least rest))
