-- Plans: what a decision does, with numbers and moments left open.
use Rattle.std.specs.Prelude.{◌≡◌, ℕ, zero, suc, ◌+◌, ◌^◌, ◌≤◌, ◌<◌, Bool, true, false, ◌&&◌, ◌||◌, nat_lt, nat_le, List, Some, [], ◌∷◌, ◌++◌, map}
use Rattle.std.specs.List.{list_any}
use Rattle.std.specs.Option.{option_map_or}
use Rattle.wf_wire.specs.declared.limits.Limits.{Limits}
use Rattle.wf_rules.specs.declared.acting.Act.{Act}
use Rattle.wf_rules.specs.declared.acting.Act.TheVariants.{Add}
use Rattle.wf_rules.specs.declared.acting.Child.{Child}
use Rattle.wf_rules.specs.declared.acting.Child.TheVariants.{Nothing}
use Rattle.wf_machine.specs.declared.definition.Node.{Node}
use Rattle.wf_machine.specs.declared.definition.NodeKind.{NodeKind, Simple, SubFlow}
use Rattle.wf_machine.specs.Marks.{node_at}
use Rattle.wf_machine.specs.Registered.{task_def_named, flow_def_for}
use Rattle.wf_machine.specs.declared.sight.ChildState.{ChildState}
use Rattle.wf_machine.specs.declared.timed.Cause.{Cause}
use Rattle.wf_machine.specs.State.{Flow}
use Rattle.wf_rules.specs.Sight.{Scene, all_deadlines, timeouts}
use Rattle.wf_rules.specs.Acts.{Turn, made, births}
use Rattle.wf_rules.specs.Rules.{choose, rules_at_most}

-- both next numbers
pub record Numbers : Type 0 where
  pub flow : ℕ
  pub task : ℕ

abbrev pub turn_at : Flow → Numbers → Turn
turn_at flow next = record { flow = flow; children = []; next_flow = next.flow; next_task = next.task }

-- what so many rules do
abbrev pub planned : Limits → Scene → ℕ → ℕ → ℕ → Turn → List Act
planned limits scene kept e zero t = []
planned limits scene kept e (suc n) t =
    option_map_or (λ acts. acts ++ planned limits scene kept e n (made e acts t)) (choose limits scene kept e t) []

-- what a decision does
unfoldable pub plan : Limits → Scene → ℕ → ℕ → Turn → List Act
plan limits scene kept e t = planned limits scene kept e (rules_at_most limits t) t

-- how many attempts, and how many flows, one act makes
abbrev pub new_task : Act → ℕ
new_task (Add n) = 1
new_task _ = 0

abbrev pub new_flow : Act → ℕ
new_flow (Add n) = births n.child
new_flow _ = 0

-- and how many a plan makes
abbrev pub new_tasks : List Act → ℕ
new_tasks [] = 0
new_tasks (act ∷ rest) = new_task act + new_tasks rest

abbrev pub new_flows : List Act → ℕ
new_flows [] = 0
new_flows (act ∷ rest) = new_flow act + new_flows rest

abbrev pub is_of_sub_flow : Child → Bool
is_of_sub_flow Nothing = false
is_of_sub_flow _ = true

-- the act schedules a SUB_WORKFLOW
abbrev pub is_sub : Act → Bool
is_sub (Add n) = is_of_sub_flow n.child
is_sub _ = false

-- the moment passes between the two
abbrev pub is_between : ℕ → ℕ → ℕ → Bool
is_between m e d = (nat_lt m d && nat_le d e) || (nat_lt e d && nat_le d m)

-- the moments of all deadlines of a flow, its own among them
abbrev pub due_moments : Flow → List ℕ
due_moments f = timeouts f ++ map (λ (d : ℕ × Cause). d.0) (all_deadlines f.attempts)

-- A plan that was made at the moment m beside `kept` flows holds at the moment e beside `now_kept`, where the flow and
-- the definitions are as they were.
pub record PlanHolds (acts : List Act) (flow : Flow) (m e kept now_kept : ℕ) (now : Numbers) : Type 0 where
  pub flows : list_any is_sub acts ≡ true → now_kept ≡ kept
  pub tasks : now.task + new_tasks acts ≤ 2 ^ 56
  pub children : now.flow + new_flows acts ≤ 2 ^ 56
  pub deadlines : list_any (is_between m e) (due_moments flow) ≡ false

-- the kept children have numbers below that one
abbrev pub AllBelow : ℕ → List ChildState → Type 0
AllBelow n [] = Unit {0}
AllBelow n (c ∷ rest) = (c.flow.0 < n) × AllBelow n rest

-- numbers never fall, and those of kept flows lie below the next one
pub record IsLater (scene : Scene) (old now : Numbers) : Type 0 where
  pub tasks : old.task ≤ now.task
  pub flows : old.flow ≤ now.flow
  pub children : AllBelow old.flow scene.children

-- what the node names is registered so in both
abbrev pub SameNamed : Scene → Scene → List ℕ → NodeKind → Type 0
SameNamed a b name Simple = task_def_named name a.task_defs ≡ task_def_named name b.task_defs
SameNamed a b name (SubFlow child version) = flow_def_for child version a.flow_defs ≡ flow_def_for child version b.flow_defs
SameNamed a b name kind = Unit {0}

-- beside a flow of these nodes both have the same, as far as the nodes name it
pub record SameBeside (nodes : List Node) (a b : Scene) : Type 0 where
  pub mark : a.mark ≡ b.mark
  pub orphan : a.orphan ≡ b.orphan
  pub children : a.children ≡ b.children
  pub named : (index : ℕ) (n : Node) → node_at nodes index ≡ Some n → SameNamed a b n.name n.kind
