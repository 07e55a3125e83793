-- A keeper of memory, whose calls fail as they are told to.
use Rattle.std.specs.Prelude.{◌≡◌, ℕ, ◌+◌, ◌-◌, ◌^◌, min, Bool, true, false, ◌==◌, List, [], ◌∷◌, ◌++◌, Result, Ok, Err}
use Rattle.std.specs.List.{list_any}
use Rattle.wf_keeper.specs.Keys.{Change}
use Rattle.wf_keeper.specs.Rows.{Rows, applied}
use Rattle.wf_keeper.specs.declared.keeper.StoreFault.{StoreFault}
use Rattle.wf_keeper.specs.declared.keeper.StoreFault.TheVariants.{Failed, NoMemory}

-- the numbers of the calls that fail, counted from 1, how many calls were made, and how many failed
pub record Calls : Type 0 where
  pub fails : List ℕ
  pub made : ℕ
  pub faults : ℕ

-- no call was made yet
abbrev pub none_made : List ℕ → Calls
none_made fails = record { fails = fails; made = 0; faults = 0 }

-- whether the next call is a listed one
abbrev pub fails_next : Calls → Bool
fails_next c = list_any (λ n. n == c.made + 1) c.fails

-- counts stand still at the end of their type
abbrev pub one_more : ℕ → ℕ
one_more n = min (n + 1) (2 ^ 64 - 1)

-- after a call that didn't fail
abbrev pub called : Calls → Calls
called c = record { fails = c.fails; made = one_more c.made; faults = c.faults }

-- after one that did
abbrev pub failed : Calls → Calls
failed c = record { fails = c.fails; made = one_more c.made; faults = one_more c.faults }

-- the tables before each commit that was made, the present ones, and the calls
pub record Memory : Type 0 where
  pub earlier : List Rows
  pub tables : Rows
  pub calls : Calls

-- what a stop leaves at each moment so far: the tables at first, and those after each commit
abbrev pub stops : Memory → List Rows
stops k = k.earlier ++ k.tables ∷ []

-- the same tables, with these calls
abbrev pub with_calls : Calls → Memory → Memory
with_calls c k = record { earlier = k.earlier; tables = k.tables; calls = c }

-- the call isn't listed
abbrev pub IsAnswered : Memory → Type 0
IsAnswered k = fails_next k.calls ≡ false

-- the call is listed: it counts as a fault, and changes nothing else
abbrev pub IsFailed : Memory → Memory → Type 0
IsFailed old new = (fails_next old.calls ≡ true) × (new ≡ with_calls (failed old.calls) old)

-- the call isn't listed, and lacks memory: it counts, and changes nothing else
abbrev pub IsLacked : Memory → Memory → Type 0
IsLacked old new = IsAnswered old × (new ≡ with_calls (called old.calls) old)

-- a load gives the tables, and fails exactly where it is listed
abbrev pub IsMemoryLoad : Memory → Result Rows StoreFault → Memory → Type 0
IsMemoryLoad old (Ok loaded) new = IsAnswered old × (loaded ≡ old.tables) × (new ≡ with_calls (called old.calls) old)
IsMemoryLoad old (Err Failed) new = IsFailed old new
IsMemoryLoad old (Err NoMemory) new = IsLacked old new

-- a commit makes all changes, and fails exactly where it is listed
abbrev pub IsMemoryCommit : {A : Type 0} → Memory → List Change → Result A StoreFault → Memory → Type 0
IsMemoryCommit old changes (Ok a) new =
    IsAnswered old × (new ≡ record { earlier = stops old; tables = applied changes old.tables; calls = called old.calls })
IsMemoryCommit old changes (Err Failed) new = IsFailed old new
IsMemoryCommit old changes (Err NoMemory) new = IsLacked old new
