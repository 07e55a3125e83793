-- What the calls of a keeper do to its tables, and to what a stop may leave.
use Rattle.std.specs.Prelude.{◌≡◌, ◌⊎◌, ℕ, ◌+◌, ◌-◌, ◌^◌, ◌≤◌, min, Option, Some, Result, Ok, Err, IsErrOf}
use Rattle.wf_keeper.specs.Rows.{Rows}
use Rattle.wf_keeper.specs.declared.keeper.StoreFault.{StoreFault}
use Rattle.wf_keeper.specs.declared.keeper.StoreFault.TheVariants.{Failed, NoMemory}

-- where tables are told, they pass the test
abbrev pub Tells : Option Rows → (Rows → Type 0) → Type 0
Tells told P = (t : Rows) → told ≡ Some t → P t

-- a stop leaves these tables and no others
abbrev pub Only : Rows → (Rows → Type 0) → Type 0
Only t left = (x : Rows) → left x → x ≡ t

-- a stop leaves nothing that it couldn't leave before
abbrev pub AddsNothing : (Rows → Type 0) → (Rows → Type 0) → Type 0
AddsNothing old new = (x : Rows) → new x → old x

-- the count of faults rose, or stands at the last number of its type
abbrev pub Rose : ℕ → ℕ → Type 0
Rose before now = min (before + 1) (2 ^ 64 - 1) ≤ now

-- the count never falls, and Failed comes only where it rose
pub record HasCause {A : Type 0} (before now : ℕ) (result : Result A StoreFault) : Type 0 where
  pub later : before ≤ now
  pub failed : IsErrOf result Failed → Rose before now

-- what is so after Ok, after Failed and after want of memory
abbrev pub ByAnswer : {A : Type 0} → Result A StoreFault → Type 0 → Type 0 → Type 0 → Type 0
ByAnswer (Ok a) made failed lacked = made
ByAnswer (Err Failed) made failed lacked = failed
ByAnswer (Err NoMemory) made failed lacked = lacked

-- the tables t are changed to u: Ok leaves u, Failed one of the two, and want of memory t
abbrev pub TablesGo : {A : Type 0} → Result A StoreFault → Rows → Rows → Option Rows → Type 0
TablesGo result t u now = ByAnswer result (Tells now (λ x. x ≡ u)) (Tells now (λ x. (x ≡ t) ⊎ (x ≡ u))) (Tells now (λ x. x ≡ t))

-- the same of a stop: after Ok it leaves u alone, after Failed one of the two or what it could leave before
abbrev pub LeftGoes : {A : Type 0} → Result A StoreFault → Rows → Rows → (Rows → Type 0) → (Rows → Type 0) → Type 0
LeftGoes result t u old new = ByAnswer result (Only u new) ((x : Rows) → new x → (x ≡ t) ⊎ ((x ≡ u) ⊎ old x)) (AddsNothing old new)
