-- Lists of places: rising, each place once.
use Rattle.std.specs.Prelude.{◌≡◌, ℕ, ◌<◌, ◌≤◌, ◌⊎◌, nat_lt, if◌then◌else◌, List, [], ◌∷◌}

-- the place stands in the list
abbrev pub Has : ℕ → List ℕ → Type 0
Has p [] = ⊥
Has p (x ∷ xs) = (x ≡ p) ⊎ Has p xs

-- the list rises, from above this number on
abbrev pub RisesFrom : ℕ → List ℕ → Type 0
RisesFrom low [] = Unit {0}
RisesFrom low (x ∷ xs) = (low < x) × RisesFrom x xs

-- places from 1 to n, rising
abbrev pub ArePlaces : ℕ → List ℕ → Type 0
ArePlaces n xs = RisesFrom 0 xs × ((p : ℕ) → Has p xs → p ≤ n)

-- no place stands in both
abbrev pub AreApart : List ℕ → List ℕ → Type 0
AreApart xs ys = (p : ℕ) → Has p xs → Has p ys → ⊥

abbrev pub insert_place : ℕ → List ℕ → List ℕ
insert_place p [] = p ∷ []
insert_place p (x ∷ xs) = if nat_lt p x then p ∷ x ∷ xs else x ∷ insert_place p xs

-- the places of both lists, in their order
abbrev pub merged : List ℕ → List ℕ → List ℕ
merged xs [] = xs
merged xs (y ∷ ys) = insert_place y (merged xs ys)
