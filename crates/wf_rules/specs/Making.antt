-- When an act can be made of a flow so that it stays one that can be kept. What a rule wants done always can: the code that
-- makes acts asks for this and no more.
use Rattle.std.specs.Prelude.{◌≡◌, ℕ, ◌<◌, Bool, true, false, is_some, slice_get, List, [], ◌∷◌, map, Some}
use Rattle.wf_names.specs.FlowStatus.{flow_is_open}
use Rattle.wf_names.specs.TaskStatus.{task_is_open}
use Rattle.wf_rules.specs.declared.acting.Act.{Act}
use Rattle.wf_rules.specs.declared.acting.Act.TheVariants.{Add, Close, Note, Forgive, Turn as TurnOn, Variables, NoteFlow, End}
use Rattle.wf_rules.specs.declared.acting.Begin.{Begin}
use Rattle.wf_rules.specs.declared.acting.Begin.TheVariants.{Queued, Held as Holds}
use Rattle.wf_rules.specs.declared.acting.NewAttempt.{NewAttempt}
use Rattle.wf_machine.specs.declared.definition.FlowDef.{FlowDef}
use Rattle.wf_machine.specs.Sight.{Seen, seen}
use Rattle.wf_machine.specs.Records.{Held, is_kind_at, is_simple, is_sub_flow, is_loop}
use Rattle.wf_rules.specs.Acts.{Turn, make}
use Rattle.wf_rules.specs.Rules.{is_lost_status, is_running}
use Rattle.wf_rules.specs.Plans.{is_of_sub_flow}

abbrev pub is_queued : Begin → Bool
is_queued (Queued timing delay) = true
is_queued begin = false

abbrev pub is_held : Begin → Bool
is_held (Holds delay) = true
is_held begin = false

-- an attempt at that node in that iteration stands at the place
pub record IsTried (attempts : List Seen) (node iteration p : ℕ) : Type 0 where
  pub attempt : Seen
  pub there : slice_get attempts p ≡ Some attempt
  pub same_node : attempt.node ≡ node
  pub same_turn : attempt.iteration ≡ iteration

-- a new attempt fits the definition: workers are given attempts of SIMPLE nodes and of no others
pub record IsFit (def : FlowDef) (attempts : List Seen) (n : NewAttempt) : Type 0 where
  pub queued : is_kind_at is_simple def n.node ≡ is_queued n.begin
  pub child : is_of_sub_flow n.child ≡ true → is_kind_at is_sub_flow def n.node ≡ true
  pub turn : is_kind_at is_loop def n.node ≡ true → is_held n.begin ≡ true → 0 < n.turn
  pub simple : is_some n.retried ≡ true → is_kind_at is_simple def n.node ≡ true
  pub retried : Held (IsTried attempts n.node n.iteration) n.retried

-- the attempt at the place is open; it has ended without success
abbrev pub OpenAt : List Seen → ℕ → Type 0
OpenAt attempts p = (a : Seen) × (slice_get attempts p ≡ Some a) × (task_is_open a.status ≡ true)

abbrev pub LostAt : List Seen → ℕ → Type 0
LostAt attempts p = (a : Seen) × (slice_get attempts p ≡ Some a) × (is_lost_status a.status ≡ true)

abbrev pub CanMake : FlowDef → Bool → List Seen → Act → Type 0
CanMake def running attempts (Add n) = (running ≡ true) × IsFit def attempts n
CanMake def running attempts (Close p outcome reason output) = OpenAt attempts p
CanMake def running attempts (Note p alert reason) = OpenAt attempts p
CanMake def running attempts (Forgive p) = LostAt attempts p
CanMake def running attempts (TurnOn p output turn) = 0 < turn
CanMake def running attempts (Variables variables) = Unit {0}
CanMake def running attempts (NoteFlow reason) = Unit {0}
CanMake def running attempts (End status reason output) = flow_is_open status ≡ false

-- the acts, one after another
abbrev pub CanMakeAll : ℕ → List Act → Turn → Type 0
CanMakeAll e [] t = Unit {0}
CanMakeAll e (act ∷ rest) t =
    CanMake t.flow.def (is_running t.flow.status) (map seen t.flow.attempts) act × CanMakeAll e rest (make e act t)
