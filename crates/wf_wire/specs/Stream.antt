-- What sources, sinks and clocks mean.
use Rattle.std.specs.Prelude.{◌≡◌, ◌≢◌, ℕ, suc, ◌+◌, ◌^◌, ◌-◌, ◌<◌, ◌≤◌, min, List, [], ◌++◌, length, take, Option, Some, Result, Ok, Err}
use Rattle.wf_wire.specs.declared.errors.Failed.{Failed}

-- the count of faults rose, or stands at the last number of its type
abbrev pub Rose : ℕ → ℕ → Type 0
Rose before now = min (before + 1) (2 ^ 64 - 1) ≤ now

-- the count never falls, and a failure comes only where it rose
abbrev pub Counts : {A : Type 0} → ℕ → ℕ → Result A Failed → Type 0
Counts before now (Ok a) = before ≤ now
Counts before now (Err e) = (before ≤ now) × Rose before now

-- a read gives the next of the bytes that are left, at least one, or none exactly at their end; a failed one takes none
abbrev pub Gives : Option (List ℕ) → Option (List ℕ) → List ℕ → Result ℕ Failed → Type 0
Gives old new room (Ok n) = (n ≤ length room)
    × ((left : List ℕ) → old ≡ Some left → (rest : List ℕ) × (new ≡ Some rest) × (left ≡ take n room ++ rest) × (n ≡ 0 → 0 < length room → left ≡ []))
Gives old new room (Err e) = new ≡ old

-- a write takes the first of the bytes, at least one where there are some; a failed one takes none
abbrev pub Takes : Option (List ℕ) → Option (List ℕ) → List ℕ → Result ℕ Failed → Type 0
Takes old new piece (Ok n) = (n ≤ length piece) × (0 < length piece → 0 < n)
    × ((taken : List ℕ) → old ≡ Some taken → new ≡ Some (taken ++ take n piece))
Takes old new piece (Err e) = new ≡ old

-- all bytes were taken, or, where the sink failed, not all of them: those of a front
abbrev pub Writes : {A : Type 0} → Option (List ℕ) → Option (List ℕ) → List ℕ → Result A Failed → Type 0
Writes old new bytes (Ok a) = (taken : List ℕ) → old ≡ Some taken → new ≡ Some (taken ++ bytes)
Writes old new bytes (Err e) = (taken : List ℕ) → old ≡ Some taken
    → (front : List ℕ) × (rest : List ℕ) × ((bytes ≡ front ++ rest) × (rest ≢ []) × (new ≡ Some (taken ++ front)))

-- the first of the readings that were to come, and from now on those after it
abbrev pub Shows : Option (ℕ → ℕ) → Option (ℕ → ℕ) → ℕ → Type 0
Shows old new moment = (readings : ℕ → ℕ) → old ≡ Some readings → (moment ≡ readings 0) × (new ≡ Some (λ k. readings (suc k)))
