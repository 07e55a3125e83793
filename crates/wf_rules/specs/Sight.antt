-- What the rules see of a flow at a moment: no attempt's number, and of the moments only which deadlines have passed.
use Rattle.std.specs.Prelude.{ℕ, ◌+◌, ◌*◌, ◌==◌, ◌&&◌, ◌||◌, not, nat_le, Bool, true, false, if◌then◌else◌, List, [], ◌∷◌, ◌++◌, map, filter, Option, None, option_and_then}
use Rattle.std.specs.List.{find, list_any}
use Rattle.std.specs.Option.{option_map_or}
use Rattle.wf_doc.specs.declared.doc.Doc.{Doc}
use Rattle.wf_names.specs.declared.ids.FlowNo.{FlowNo}
use Rattle.wf_names.specs.declared.ids.TaskNo.{TaskNo}
use Rattle.wf_names.specs.declared.statuses.TaskStatus.{TaskStatus}
use Rattle.wf_names.specs.declared.statuses.TaskStatus.TheVariants.{InProgress}
use Rattle.wf_names.specs.declared.statuses.FlowStatus.{FlowStatus}
use Rattle.wf_names.specs.TaskStatus.{task_is_open}
use Rattle.wf_names.specs.FlowStatus.{flow_is_open}
use Rattle.wf_machine.specs.declared.definition.FlowDef.{FlowDef}
use Rattle.wf_machine.specs.declared.definition.TaskDef.{TaskDef}
use Rattle.wf_machine.specs.declared.sight.ChildState.{ChildState}
use Rattle.wf_machine.specs.declared.timed.Cause.{Cause}
use Rattle.wf_machine.specs.declared.timed.Clocked.{Clocked}
use Rattle.wf_time.specs.Deadlines.{deadlines_of}
use Rattle.wf_machine.specs.State.{Attempt, Flow, Kept, State, attempt_numbered}
use Rattle.wf_machine.specs.Flows.{flow_numbered}
use Rattle.wf_machine.specs.Sight.{Seen, seen, Told}

-- ---- deadlines

abbrev pub is_in_progress : TaskStatus → Bool
is_in_progress InProgress = true
is_in_progress _ = false

-- what the deadlines of an attempt are counted from
abbrev pub clocked : Attempt → Clocked
clocked a =
    record {
      held = is_in_progress a.status;
      ready = a.ready;
      first_poll = a.first_poll;
      last_poll = a.last_poll;
      poll_noted = a.poll_noted;
      total_noted = a.total_noted;
      wait = a.wait;
    }

-- the deadlines of an attempt: an open one has some
abbrev pub deadlines : Attempt → List (ℕ × Cause)
deadlines a = if task_is_open a.status then deadlines_of a.timing (clocked a) else []

-- those of the attempts in the list
abbrev pub all_deadlines : List Attempt → List (ℕ × Cause)
all_deadlines [] = []
all_deadlines (a ∷ rest) = deadlines a ++ all_deadlines rest

abbrev pub has_passed : ℕ → ℕ × Cause → Bool
has_passed e d = nat_le d.0 e

abbrev pub cause_of : ℕ × Cause → Cause
cause_of d = d.1

-- in its place before the first that isn't earlier
abbrev pub put_in : ℕ × Cause → List (ℕ × Cause) → List (ℕ × Cause)
put_in d [] = d ∷ []
put_in d (x ∷ xs) = if nat_le d.0 x.0 then d ∷ x ∷ xs else x ∷ put_in d xs

-- by their moments; those of one moment in the order in which they stand
abbrev pub sorted : List (ℕ × Cause) → List (ℕ × Cause)
sorted [] = []
sorted (d ∷ ds) = put_in d (sorted ds)

-- the causes of the attempt's passed deadlines, the earliest first
abbrev pub due : ℕ → Attempt → List Cause
due e a = map cause_of (sorted (filter (has_passed e) (deadlines a)))

-- the moment at which the flow has run too long; none where it may run for ever, or that is noted
abbrev pub timeouts : Flow → List ℕ
timeouts f = if f.noted || (f.def.timeout == 0) then [] else (f.started + 1000 * f.def.timeout) ∷ []

abbrev pub over_time : ℕ → Flow → Bool
over_time e f = list_any (λ d. nat_le d e) (timeouts f)

-- ---- children

abbrev pub has_ended : FlowNo → ChildState → Bool
has_ended number c = (c.flow.0 == number.0) && not (flow_is_open c.status)

-- the child of that number, where it has ended
abbrev pub ended_child : List ChildState → FlowNo → Option ChildState
ended_child children number = find (has_ended number) children

-- the ended child of an open attempt
abbrev pub child_end : List ChildState → Attempt → Option ChildState
child_end children a = if task_is_open a.status then option_and_then (ended_child children) a.child else None

-- ---- flows

-- What they see of a flow: its attempts stand in their order, so each is known by its place.
pub record Sight : Type 0 where
  pub number : FlowNo
  pub def : FlowDef
  pub input : Doc
  pub variables : Doc
  pub status : FlowStatus
  pub correlation : List ℕ
  pub depth : ℕ
  pub over_time : Bool
  pub attempts : List Seen
  -- of each attempt the causes of its passed deadlines, the earliest first
  pub due : List (List Cause)
  -- of each open attempt its child, where that has ended
  pub ended : List (Option ChildState)

-- of a flow that has those kept children, at the moment e
unfoldable pub sight : ℕ → List ChildState → Flow → Sight
sight e children f =
    record {
      number = f.number;
      def = f.def;
      input = f.input;
      variables = f.variables;
      status = f.status;
      correlation = f.correlation;
      depth = f.depth;
      over_time = over_time e f;
      attempts = map seen f.attempts;
      due = map (due e) f.attempts;
      ended = map (child_end children) f.attempts;
    }

-- ---- what expressions may name

-- the same by what the rules see
abbrev pub told_by : Sight → Told
told_by s =
    record {
      number = s.number;
      correlation = s.correlation;
      input = s.input;
      variables = s.variables;
      def = s.def;
      attempts = s.attempts;
    }

-- ---- beside the flow

-- what they read beside the flow
pub record Scene : Type 0 where
  -- that of the store
  pub mark : ℕ
  pub task_defs : List TaskDef
  pub flow_defs : List FlowDef
  -- the flow has a parent, whose attempt is missing or not open
  pub orphan : Bool
  -- the kept flows that have this one as their parent
  pub children : List ChildState

abbrev pub is_open_there : TaskNo → Kept → Bool
is_open_there task k = option_map_or (λ (a : Attempt). task_is_open a.status) (attempt_numbered task k.flow.attempts) false

-- the attempt is there, in that flow, and open
abbrev pub is_open_in : State → FlowNo × TaskNo → Bool
is_open_in s parent = option_map_or (is_open_there parent.1) (flow_numbered parent.0 s.flows) false

abbrev pub is_orphan : State → Flow → Bool
is_orphan s f = option_map_or (λ parent. not (is_open_in s parent)) f.parent false

abbrev pub is_child_of : FlowNo → Kept → Bool
is_child_of number k = option_map_or (λ (parent : FlowNo × TaskNo). parent.0.0 == number.0) k.flow.parent false

abbrev pub child_state : Kept → ChildState
child_state k = record { flow = k.flow.number; status = k.flow.status; output = k.flow.output; reason = k.flow.reason }

abbrev pub children_of : State → FlowNo → List ChildState
children_of s number = map child_state (filter (is_child_of number) s.flows)

-- what stands beside a flow in the state
abbrev pub scene_in : State → Flow → Scene
scene_in s f =
    record {
      mark = s.mark;
      task_defs = s.task_defs;
      flow_defs = s.flow_defs;
      orphan = is_orphan s f;
      children = children_of s f.number;
    }
