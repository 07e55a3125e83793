-- The index of attempts: the flow that each number is in.
use Rattle.std.specs.Prelude.{◌≡◌, ℕ, ◌≤◌, ◌^◌, ◌==◌, Bool, true, not, List, map, Option, Some, option_map}
use Rattle.std.specs.List.{All, find}
use Rattle.wf_names.specs.declared.ids.FlowNo.{FlowNo}
use Rattle.wf_names.specs.declared.ids.TaskNo.{TaskNo}
use Rattle.wf_machine.specs.State.{Attempt, Kept}
use Rattle.wf_machine.specs.Flows.{flow_of_task, has_attempt}
use Rattle.wf_kept.specs.declared.index.Placed.{Placed}
use Rattle.wf_kept.specs.Rising.{RisesTo}
use Rattle.wf_kept.specs.Flows.{AreAttemptsBelow, flow_number}

abbrev pub placed_task : Placed → ℕ
placed_task p = p.task.0

-- the number of the flow that the attempt is in
abbrev pub placed_in : ℕ → List Placed → Option ℕ
placed_in task index = option_map (λ (p : Placed). p.flow.0) (find (λ p. placed_task p == task) index)

-- a row for each attempt of a flow
abbrev pub rows_of : FlowNo → List Attempt → List Placed
rows_of flow attempts = map (λ (a : Attempt). record { task = a.number; flow = flow }) attempts

-- the attempt is in another flow
abbrev pub is_elsewhere : FlowNo → Placed → Bool
is_elsewhere flow p = not (p.flow.0 == flow.0)

-- each of the flow's attempts is placed in it
abbrev pub ArePlaced : List Placed → Kept → Type 0
ArePlaced index k = (task : TaskNo) → has_attempt task k ≡ true → placed_in task.0 index ≡ Some (flow_number k)

-- flows and index fit: flows rise below `next_flow`, attempts and rows below `next_task`, the index tells of each number
-- which flow has the attempt, and no attempt is in two flows
pub record AreTied (flows : List Kept) (index : List Placed) (next_flow next_task : ℕ) : Type 0 where
  pub flows_rise : RisesTo flow_number 1 next_flow flows
  pub attempts_rise : All (AreAttemptsBelow next_task) flows
  pub rows_rise : RisesTo placed_task 1 next_task index
  pub tells : (task : TaskNo) → placed_in task.0 index ≡ option_map flow_number (flow_of_task task flows)
  pub placed : All (ArePlaced index) flows
  pub flow_numbers : next_flow ≤ 2 ^ 56
  pub task_numbers : next_task ≤ 2 ^ 56
