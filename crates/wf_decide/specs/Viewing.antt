-- What a view shows of what stands beside a flow.
use Rattle.std.specs.Prelude.{◌≡◌, ℕ, Bool, ◌&&◌, not, is_some, false, length, Some}
use Rattle.std.specs.Option.{option_map_or}
use Rattle.wf_machine.specs.declared.definition.Node.{Node}
use Rattle.wf_machine.specs.declared.sight.View.{View}
use Rattle.wf_machine.specs.Marks.{node_at}
use Rattle.wf_machine.specs.State.{Flow, State}
use Rattle.wf_rules.specs.Plans.{Numbers, SameNamed}
use Rattle.wf_rules.specs.Sight.{Scene, children_of, is_open_in, scene_in}

-- what the rules read beside the flow
abbrev pub scene_of : View → Flow → Scene
scene_of view f =
    record {
      mark = view.mark;
      task_defs = view.task_defs;
      flow_defs = view.child_defs;
      orphan = is_some f.parent && not view.parent_open;
      children = view.children;
    }

-- both next numbers
abbrev pub numbers_of : View → Numbers
numbers_of view = record { flow = view.next_flow; task = view.next_task }

abbrev pub numbers_in : State → Numbers
numbers_in s = record { flow = s.next_flow; task = s.next_task }

-- the flow has a parent, whose attempt is there and open
abbrev pub has_open_parent : State → Flow → Bool
has_open_parent s f = option_map_or (is_open_in s) f.parent false

-- The view holds what a plan of the flow reads, as it is in the state: of what is registered what the flow's nodes name. Its
-- revisions and its count of entries, which no rule reads, are left open.
pub record IsViewOf (s : State) (f : Flow) (view : View) : Type 0 where
  pub mark : view.mark ≡ s.mark
  pub last : view.last ≡ s.last
  pub parent : view.parent_open ≡ has_open_parent s f
  pub children : view.children ≡ children_of s f.number
  pub flows : view.flows ≡ length s.flows
  pub next_flow : view.next_flow ≡ s.next_flow
  pub next_task : view.next_task ≡ s.next_task
  pub named : (index : ℕ) (n : Node) → node_at f.def.nodes index ≡ Some n → SameNamed (scene_of view f) (scene_in s f) n.name n.kind
