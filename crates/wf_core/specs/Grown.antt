-- Flows that a decision has changed.
use Rattle.std.specs.Prelude.{◌≡◌, ℕ, ◌+◌, ◌≤◌, ◌^◌, true, [], length, map, Some}
use Rattle.wf_names.specs.declared.ids.TaskNo.{TaskNo}
use Rattle.wf_names.specs.TaskStatus.{task_is_open}
use Rattle.wf_machine.specs.State.{Attempt, Flow, Kept, State, RisingTo, attempt_numbered}
use Rattle.wf_machine.specs.Flows.{flow_numbered}
use Rattle.wf_machine.specs.Records.{is_kind_at, is_scheduled}
use Rattle.wf_machine.specs.Tasks.{takes_update}
use Rattle.wf_flow.specs.Room.{FlowRoom}
use Rattle.wf_kept.specs.Flows.{IsGrown, attempt_number}
use Rattle.wf_rules.specs.Acts.{Turn}
use Rattle.wf_rules.specs.Plans.{turn_at}
use Rattle.wf_turn.specs.Growing.{IsLaterTurn}
use Rattle.wf_steps.specs.Calls.{decided}
use Rattle.wf_core.specs.declared.change.Decided.{Decided}
use Rattle.wf_core.specs.Store.{Store}

-- a flow that a kept one has become: it has the same attempts by number
pub record IsChanged (flow : Flow) (s : State) : Type 0 where
  pub old : Kept
  pub found : flow_numbered flow.number s.flows ≡ Some old
  pub numbers : map attempt_number flow.attempts ≡ map attempt_number old.flow.attempts
  pub rising : RisingTo 1 s.next_task flow.attempts

-- an equal copy of a kept flow
pub record IsCopied (flow : Flow) (s : State) : Type 0 where
  pub old : Kept
  pub found : flow_numbered flow.number s.flows ≡ Some old
  pub same : old.flow ≡ flow
  pub rising : RisingTo 1 s.next_task flow.attempts

-- a flow that a kept one has become: it has the same attempts by number, and then more, below that number
pub record HasGrown (flow : Flow) (next_task : ℕ) (s : State) : Type 0 where
  pub old : Kept
  pub found : flow_numbered flow.number s.flows ≡ Some old
  pub grown : IsGrown old.flow.attempts flow.attempts s.next_task next_task
  pub rising : RisingTo 1 next_task flow.attempts

-- a flow that a kept one has become: it has no attempts
pub record IsEmptied (flow : Flow) (s : State) : Type 0 where
  pub old : Kept
  pub found : flow_numbered flow.number s.flows ≡ Some old
  pub none : flow.attempts ≡ []

-- what a decision left, as it is kept
pub record IsTold (turn : Turn) (d : Decided) : Type 0 where
  pub flow : d.flow.flow ≡ turn.flow
  pub started : map (λ (f : FlowRoom). f.flow) d.started.items ≡ turn.children
  pub next_task : d.next_task ≡ turn.next_task

-- what the decision of a flow left, at that moment and where the next attempt had that number, and the room for it
pub record IsDecided (flow : Flow) (next_task moment : ℕ) (old new : Store) (d : Decided) : Type 0 where
  pub turn : Turn
  pub is : turn ≡ decided old.limits moment flow (record old.state { next_task = next_task })
  pub later : IsLaterTurn (turn_at flow (record { flow = old.state.next_flow; task = next_task })) turn
  pub told : IsTold turn d
  pub tasks : turn.next_task ≤ 2 ^ 56
  pub flows : turn.next_flow ≤ 2 ^ 56
  pub room_flows : length d.started.items ≤ new.rooms.flows
  pub room_tasks : d.next_task ≤ new.rooms.tasks + old.state.next_task

-- an equal copy of a kept flow, and an open attempt of it that takes an update
pub record IsTaken (task : TaskNo) (flow : Flow) (s : State) : Type 0 where
  pub old : Kept
  pub found : flow_numbered flow.number s.flows ≡ Some old
  pub same : old.flow ≡ flow
  pub rising : RisingTo 1 s.next_task flow.attempts
  pub attempt : Attempt
  pub there : attempt_numbered task flow.attempts ≡ Some attempt
  pub is_open : task_is_open attempt.status ≡ true
  pub takes : is_kind_at takes_update flow.def attempt.node ≡ true

-- an equal copy of a kept flow, and an attempt of it that can be handed out
pub record IsOffered (task : TaskNo) (flow : Flow) (s : State) : Type 0 where
  pub old : Kept
  pub found : flow_numbered flow.number s.flows ≡ Some old
  pub same : old.flow ≡ flow
  pub rising : RisingTo 1 s.next_task flow.attempts
  pub attempt : Attempt
  pub there : attempt_numbered task flow.attempts ≡ Some attempt
  pub scheduled : is_scheduled attempt.status ≡ true
