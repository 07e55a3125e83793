-- Lists in which a number of each item rises, and places in them.
use Rattle.std.specs.Prelude.{◌≡◌, ℕ, ◌+◌, ◌≤◌, List, [], ◌∷◌, Some, option_map, slice_get}

-- the first number is at least `low`, each is above that before it, and all are below `high`
abbrev pub RisesTo : {T : Type 0} → (T → ℕ) → ℕ → ℕ → List T → Type 0
RisesTo number low high [] = low ≤ high
RisesTo number low high (x ∷ xs) = (low ≤ number x) × RisesTo number (number x + 1) high xs

-- the numbers rise from 1
abbrev pub Rises : {T : Type 0} → (T → ℕ) → List T → Type 0
Rises number xs = (high : ℕ) × RisesTo number 1 high xs

-- the item at that place has the number
abbrev pub IsPlaceOf : {T : Type 0} → (T → ℕ) → ℕ → List T → ℕ → Type 0
IsPlaceOf number n xs place = option_map number (slice_get xs place) ≡ Some n
