-- Inputs that are read whole.
use Rattle.std.specs.Prelude.{◌≡◌, ℕ, suc, ◌+◌, ◌<◌, ◌≤◌, List, [], ◌++◌, length, drop, Option, Some}
use Rattle.wf_commands.specs.declared.input.Filled.{Filled}
use Rattle.wf_commands.specs.declared.input.Filled.TheVariants as fill
use Rattle.wf_commands.specs.declared.input.Input.{Input}
use Rattle.wf_commands.specs.declared.input.Input.TheVariants.{Whole, Long, Failed, NoMemory}

-- where the source told what it had left, it tells that still, and P holds of both
abbrev pub Told : Option (List ℕ) → Option (List ℕ) → (List ℕ → List ℕ → Type 0) → Type 0
Told left left' P = (before : List ℕ) → left ≡ Some before → (after : List ℕ) × ((left' ≡ Some after) × P before after)

-- the bytes that were left are those that are held now and those that are left now
abbrev pub Moved : List ℕ → Option (List ℕ) → List ℕ → Option (List ℕ) → Type 0
Moved held left held' left' = Told left left' (λ before after. held' ++ after ≡ held ++ before)

-- one read, of at most so many bytes
abbrev pub IsFill : List ℕ → Option (List ℕ) → ℕ → List ℕ → Option (List ℕ) → Filled → Type 0
IsFill held left most held' left' fill.More =
    (length held < length held') × ((length held' ≤ length held + most) × Moved held left held' left')
IsFill held left most held' left' fill.AtEnd = (held' ≡ held) × Told left left' (λ before after. (before ≡ []) × (after ≡ []))
IsFill held left most held' left' fill.Failed = Told left left' (λ before after. Unit {0})
IsFill held left most held' left' fill.NoMemory = Told left left' (λ before after. Unit {0})

-- what comes of an input that may have so many bytes, and what the source then has of it
abbrev pub IsInput : ℕ → Input → List ℕ → List ℕ → Type 0
IsInput most (Whole bytes) input rest = (bytes.items ≡ input) × ((length input ≤ most) × (rest ≡ []))
IsInput most Long input rest = (most < length input) × (rest ≡ drop (suc most) input)
IsInput most Failed input rest = Unit {0}
IsInput most NoMemory input rest = Unit {0}
