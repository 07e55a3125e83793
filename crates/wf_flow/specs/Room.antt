-- What a flow and its list of attempts are to contracts: with the room that they have for more attempts.
use Rattle.std.specs.Prelude.{◌≡◌, ℕ, List, Some, option_map, slice_get}
use Rattle.wf_names.specs.declared.ids.TaskNo.{TaskNo}
use Rattle.wf_machine.specs.State.{Attempt, Flow}

-- attempts, and how many more have room
pub record AttemptRoom : Type 0 where
  pub items : List Attempt
  pub spare : ℕ

-- a flow, and how many more attempts have room in it
pub record FlowRoom : Type 0 where
  pub flow : Flow
  pub spare : ℕ

-- the attempt at that place has that number
abbrev pub IsPlaceOf : TaskNo → List Attempt → ℕ → Type 0
IsPlaceOf task attempts place = option_map (λ a. a.number.0) (slice_get attempts place) ≡ Some task.0
