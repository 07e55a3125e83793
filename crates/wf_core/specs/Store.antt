-- What a core holds, as contracts see it.
use Rattle.std.specs.Prelude.{ℕ, List}
use Rattle.wf_wire.specs.declared.limits.Limits.{Limits}
use Rattle.wf_machine.specs.State.{State}
use Rattle.wf_kept.specs.Flows.{FlowTable}
use Rattle.wf_kept.specs.Hands.{Book}

-- what has room without memory: more flows, attempts and definitions, and hand-outs of these names
pub record Rooms : Type 0 where
  pub flows : ℕ
  pub tasks : ℕ
  pub task_defs : ℕ
  pub flow_defs : ℕ
  pub hands : List (List ℕ)

-- the machine's state, its limits, how many entries were made, and the room
pub record Store : Type 0 where
  pub state : State
  pub limits : Limits
  pub entries : ℕ
  pub rooms : Rooms

-- the kept flows with the numbers that come next
abbrev pub table_of : Store → FlowTable
table_of s =
    record {
      kept = s.state.flows;
      next_flow = s.state.next_flow;
      next_task = s.state.next_task;
      spare_flows = s.rooms.flows;
      spare_tasks = s.rooms.tasks;
    }

-- the hand-outs with the names that have room
abbrev pub book_of : Store → Book
book_of s = record { lists = s.state.hands; ready = s.rooms.hands }
