-- What a change makes of the state, and the room that it needs.
use Rattle.std.specs.Prelude.{ℕ, ◌≡◌, ◌+◌, ◌≤◌, ◌^◌, List, [], ◌∷◌, ◌++◌, length, map, Option, None, Some}
use Rattle.wf_machine.specs.declared.sight.HandList.{HandList}
use Rattle.wf_flow.specs.Room.{FlowRoom}
use Rattle.wf_machine.specs.Flows.{new_kept}
use Rattle.wf_machine.specs.State.{Kept, State, RisingTo}
use Rattle.wf_steps.specs.Calls.{Stepped, stepped}
use Rattle.wf_machine.specs.Registered.{with_flow_defs, with_task_defs, without_flow_def, without_task_def}
use Rattle.wf_machine.specs.Queues.{with_hand}
use Rattle.wf_machine.specs.Records.{IsMoment}
use Rattle.wf_machine.specs.Replies.{IsPrintable}
use Rattle.wf_kept.specs.Flows.{AreStarted, FlowTable, IsAnewFlow, IsGrownFlow, flow_changed, flow_removed, new_attempts}
use Rattle.wf_kept.specs.Hands.{Book, HasHandRoom}
use Rattle.wf_core.specs.Store.{Store, book_of, table_of}
use Rattle.wf_core.specs.declared.change.Touched.{Touched}
use Rattle.wf_core.specs.declared.change.Touched.TheVariants.{Nothing, TaskDefs, NoTaskDef, FlowDefs, NoFlowDef, NewFlow, Flow as OldFlow, FlowAnew, NoFlow}
use Rattle.wf_core.specs.declared.change.Change.{Change}
use Rattle.wf_core.specs.declared.change.Decided.{Decided}

abbrev pub hand_noted : Option (List ℕ) → ℕ → List HandList → List HandList
hand_noted None e hands = hands
hand_noted (Some name) e hands = with_hand name e hands

-- flows that are kept from the entry at that place on
abbrev pub started_at : ℕ → List FlowRoom → List Kept
started_at place flows = map (λ (f : FlowRoom). new_kept place f.flow) flows

-- a kept flow is as it was decided, and those that it started are kept
abbrev pub with_changed : ℕ → ℕ → Decided → State → State
with_changed place e changed s =
    record s {
      last = e;
      next_flow = s.next_flow + length changed.started.items;
      next_task = changed.next_task;
      flows = flow_changed place changed.flow.flow s.flows ++ started_at place changed.started.items;
    }

-- the state after what is touched at the moment e, by the entry at that place
abbrev pub touched : ℕ → ℕ → Touched → State → State
touched place e Nothing s = s
touched place e (TaskDefs defs) s = record s { last = e; task_defs = with_task_defs defs.items s.task_defs; defs_revision = place }
touched place e (NoTaskDef name) s = record s { last = e; task_defs = without_task_def name s.task_defs; defs_revision = place }
touched place e (FlowDefs defs) s = record s { last = e; flow_defs = with_flow_defs defs.items s.flow_defs; defs_revision = place }
touched place e (NoFlowDef name version) s =
    record s { last = e; flow_defs = without_flow_def name version s.flow_defs; defs_revision = place }
touched place e (NewFlow new) s =
    record s {
      last = e;
      next_flow = s.next_flow + 1 + length new.started.items;
      next_task = new.next_task;
      flows = (s.flows ++ new_kept place new.flow.flow ∷ []) ++ started_at place new.started.items;
    }
touched place e (OldFlow changed hand) s = record (with_changed place e changed s) { hands = hand_noted hand e s.hands }
touched place e (FlowAnew changed) s = with_changed place e changed s
touched place e (NoFlow number) s = record s { last = e; flows = flow_removed place number s.flows }

-- what the change makes of the state, as the entry at that place, and the reply
abbrev pub change_made : ℕ → Change → State → Stepped
change_made place c s = stepped (touched place c.moment c.touched s) c.reply

-- ---- room

-- a new flow has the next number, its attempts the next ones, and those that it started come after it
pub record IsNewFlow (table : FlowTable) (new : Decided) : Type 0 where
  pub number : new.flow.flow.number.0 ≡ table.next_flow
  pub attempts : RisingTo table.next_task new.next_task new.flow.flow.attempts
  pub limit : new.next_task ≤ 2 ^ 56
  pub started : AreStarted (table.next_flow + 1) (map (λ (f : FlowRoom). f.flow) new.started.items)
  pub numbers_left : table.next_flow + 1 + length new.started.items ≤ 2 ^ 56
  pub room_flows : 1 + length new.started.items ≤ table.spare_flows
  pub room_tasks : length new.flow.flow.attempts ≤ table.spare_tasks

abbrev pub HasRoomFor : Option (List ℕ) → Book → Type 0
HasRoomFor None book = Unit {0}
HasRoomFor (Some name) book = HasHandRoom name book

-- a kept flow has grown, and there is room for its new attempts and for the flows that it started
pub record IsOldFlow (table : FlowTable) (changed : Decided) : Type 0 where
  pub grown : IsGrownFlow table changed.flow.flow changed.next_task
  pub limit : changed.next_task ≤ 2 ^ 56
  pub started : AreStarted table.next_flow (map (λ (f : FlowRoom). f.flow) changed.started.items)
  pub numbers_left : table.next_flow + length changed.started.items ≤ 2 ^ 56
  pub room_flows : length changed.started.items ≤ table.spare_flows
  pub room_tasks : new_attempts changed.flow.flow table.kept ≤ table.spare_tasks

-- a kept flow has begun anew, and there is room for its attempts and for the flows that it started
pub record IsFlowAnew (table : FlowTable) (changed : Decided) : Type 0 where
  pub anew : IsAnewFlow table changed.flow.flow changed.next_task
  pub limit : changed.next_task ≤ 2 ^ 56
  pub started : AreStarted table.next_flow (map (λ (f : FlowRoom). f.flow) changed.started.items)
  pub numbers_left : table.next_flow + length changed.started.items ≤ 2 ^ 56
  pub room_flows : length changed.started.items ≤ table.spare_flows
  pub room_tasks : length changed.flow.flow.attempts ≤ table.spare_tasks

-- what is touched has room, and fits what is kept
abbrev pub IsReady : Touched → Store → Type 0
IsReady Nothing store = Unit {0}
IsReady (TaskDefs defs) store = length defs.items ≤ store.rooms.task_defs
IsReady (NoTaskDef name) store = Unit {0}
IsReady (FlowDefs defs) store = length defs.items ≤ store.rooms.flow_defs
IsReady (NoFlowDef name version) store = Unit {0}
IsReady (NewFlow new) store = IsNewFlow (table_of store) new
IsReady (OldFlow changed hand) store = IsOldFlow (table_of store) changed × HasRoomFor hand (book_of store)
IsReady (FlowAnew changed) store = IsFlowAnew (table_of store) changed
IsReady (NoFlow number) store = Unit {0}

-- the change is what a call makes of the state, and it is ready
pub record IsPrepared (made : Stepped) (old new : Store) (change : Change) : Type 0 where
  pub makes : change_made (old.entries + 1) change old.state ≡ made
  pub ready : IsReady change.touched new
  pub moment : IsMoment change.moment
  pub printable : IsPrintable change.reply
