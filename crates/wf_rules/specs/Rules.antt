-- The decider: the rules in their order, what the first that applies does, and the flow when none applies any more.
use Rattle.std.specs.Prelude.{ℕ, pos, zero, suc, ◌+◌, ◌-◌, ◌*◌, ◌^◌, max, Bool, true, false, if◌then◌else◌, ◌&&◌, ◌||◌, not, nat_lt, nat_le, List, [], ◌∷◌, ◌++◌, map, length, slice_get, codes, Option, None, Some, option_map, option_and_then}
use Rattle.std.specs.List.{list_any}
use Rattle.std.specs.Option.{option_map_or}
use Rattle.wf_doc.specs.declared.doc.Doc.{Doc}
use Rattle.wf_doc.specs.Doc.{as_table}
use Rattle.wf_names.specs.declared.statuses.TaskStatus.{TaskStatus}
use Rattle.wf_names.specs.declared.statuses.TaskStatus.TheVariants as task
use Rattle.wf_names.specs.declared.statuses.FlowStatus.{FlowStatus}
use Rattle.wf_names.specs.declared.statuses.FlowStatus.TheVariants as flow
use Rattle.wf_names.specs.TaskStatus.{task_is_open, task_is_successful, task_status_text}
use Rattle.wf_wire.specs.declared.limits.Limits.{Limits}
use Rattle.wf_rules.specs.declared.acting.Act.{Act}
use Rattle.wf_rules.specs.declared.acting.Act.TheVariants.{Add, Close, Note, Forgive, Turn as TurnOn, NoteFlow, End}
use Rattle.wf_rules.specs.declared.acting.Alert.{Alert}
use Rattle.wf_rules.specs.declared.acting.Alert.TheVariants.{Poll as PollAlert, Total as TotalAlert}
use Rattle.wf_rules.specs.declared.acting.Begin.TheVariants.{Queued, Over}
use Rattle.wf_rules.specs.declared.acting.Child.{Child}
use Rattle.wf_rules.specs.declared.acting.Child.TheVariants.{Nothing, Flow as NewFlow, TooLarge, Refused}
use Rattle.wf_rules.specs.declared.acting.NewAttempt.{NewAttempt}
use Rattle.wf_rules.specs.declared.acting.Outcome.{Outcome}
use Rattle.wf_rules.specs.declared.acting.Outcome.TheVariants.{Completed, Failed, FailedWithTerminalError, TimedOut}
use Rattle.wf_machine.specs.declared.definition.Node.{Node}
use Rattle.wf_machine.specs.declared.definition.NodeKind.{NodeKind, Loop'}
use Rattle.wf_machine.specs.declared.sight.ChildState.{ChildState}
use Rattle.wf_machine.specs.declared.timed.Cause.{Cause}
use Rattle.wf_machine.specs.declared.timed.Cause.TheVariants.{Poll, Response, Total, Wait}
use Rattle.wf_machine.specs.declared.timed.TaskPolicy.{TaskPolicy}
use Rattle.wf_machine.specs.declared.timed.TaskPolicy.TheVariants.{Retry, TimeOutWf, AlertOnly}
use Rattle.wf_machine.specs.declared.timed.Timing.{Timing}
use Rattle.wf_machine.specs.declared.walking.Next.{Next}
use Rattle.wf_machine.specs.declared.walking.Next.TheVariants.{Schedule, Join as Joins, Turn as Turns, Waits, Done}
use Rattle.wf_machine.specs.State.{empty_table}
use Rattle.wf_machine.specs.Sight.{Seen}
use Rattle.wf_rules.specs.Sight.{Sight, Scene, sight}
use Rattle.wf_machine.specs.Marks.{is_of, last_of, next_step, node_at}
use Rattle.wf_time.specs.Delay.{retry_delay}
use Rattle.wf_machine.specs.Documents.{reference_text}
use Rattle.wf_machine.specs.Records.{is_kind_at, is_simple}
pub use Rattle.wf_machine.specs.Statuses.{is_running}
use Rattle.wf_rules.specs.Outputs.{filled_in, output_of, child_output, join_output, turned_output, turns_on, with_key}
use Rattle.wf_rules.specs.Scheduling.{fails, within, adding_one, schedule}
use Rattle.wf_rules.specs.Acts.{Turn, made}

-- ---- finding

abbrev pub shift : {T : Type 0} → ℕ × T → ℕ × T
shift p = (suc p.0, p.1)

-- the first place at which something stands, with it
abbrev pub first_some : {T : Type 0} → List (Option T) → Option (ℕ × T)
first_some [] = None
first_some (Some x ∷ rest) = Some (zero, x)
first_some (None ∷ rest) = option_map shift (first_some rest)

-- the first place at which something is due, with what is due first there
abbrev pub first_due : List (List Cause) → Option (ℕ × Cause)
first_due [] = None
first_due ((cause ∷ more) ∷ rest) = Some (zero, cause)
first_due ([] ∷ rest) = option_map shift (first_due rest)

abbrev pub is_lost_status : TaskStatus → Bool
is_lost_status status = not (task_is_open status) && not (task_is_successful status)

-- the attempt is the last of its node and iteration, where `rest` come after it, and ended without success
abbrev pub is_lost : Seen → List Seen → Bool
is_lost a rest = not a.superseded && is_lost_status a.status && not (list_any (is_of a.node a.iteration) rest)

abbrev pub first_lost : List Seen → Option (ℕ × Seen)
first_lost [] = None
first_lost (a ∷ rest) = if is_lost a rest then Some (zero, a) else option_map shift (first_lost rest)

abbrev pub later_place : Bool → Option ℕ → Option ℕ
later_place b (Some p) = Some (suc p)
later_place true None = Some zero
later_place false None = None

-- the place of the last attempt of a node in an iteration
unfoldable pub last_place : List Seen → ℕ → ℕ → Option ℕ
last_place [] node iteration = None
last_place (a ∷ rest) node iteration = later_place (is_of node iteration a) (last_place rest node iteration)

abbrev pub timing_at : ℕ → List Seen → Option Timing
timing_at p attempts = option_and_then (λ (a : Seen). a.timing) (slice_get attempts p)

-- ---- r0: a flow whose parent's attempt is missing or over

abbrev pub parent_ended : List Act
parent_ended = End flow.Terminated (Some (codes "parent ended")) None ∷ []

-- ---- r1: the flow has run too long

abbrev pub ran_too_long : Bool → List Act
ran_too_long true = NoteFlow (codes "workflow timed out") ∷ []
ran_too_long false = End flow.TimedOut (Some (codes "workflow timed out")) None ∷ []

-- ---- r2: the first open attempt with a passed deadline, by its earliest one

abbrev pub policy_of : Option Timing → TaskPolicy
policy_of timing = option_map_or (λ (t : Timing). t.policy) timing Retry

abbrev pub timed_out : ℕ → List ℕ → Act
timed_out p reason = Close p TimedOut (Some reason) None

abbrev pub by_policy : ℕ → Alert → List ℕ → TaskPolicy → List Act
by_policy p alert reason Retry = timed_out p reason ∷ []
by_policy p alert reason TimeOutWf = timed_out p reason ∷ End flow.TimedOut (Some reason) None ∷ []
by_policy p alert reason AlertOnly = Note p alert reason ∷ []

abbrev pub past_due : Sight → ℕ → Cause → List Act
past_due s p Poll = by_policy p PollAlert (codes "poll timeout") (policy_of (timing_at p s.attempts))
past_due s p Response = timed_out p (codes "response timeout") ∷ []
past_due s p Total = by_policy p TotalAlert (codes "total timeout") (policy_of (timing_at p s.attempts))
past_due s p Wait = Close p Completed None None ∷ []

-- ---- r3: the first open attempt whose child has ended

abbrev pub child_outcome : FlowStatus → Outcome
child_outcome flow.Completed = Completed
child_outcome flow.TimedOut = TimedOut
child_outcome status = Failed

abbrev pub child_ended : Limits → Scene → ℕ → ChildState → List Act
child_ended limits scene p c =
    let output = child_output scene.mark c in
    within limits (output ∷ []) (Close p (child_outcome c.status) (Some c.reason) (Some output) ∷ [])

-- ---- r4: the first attempt that is lost

-- Failures for good aren't retried.
abbrev pub may_retry : TaskStatus → Bool
may_retry task.Failed = true
may_retry task.TimedOut = true
may_retry status = false

-- the timing of an attempt that is retried once more
abbrev pub retried_by : Sight → Seen → Option Timing
retried_by s a =
    if is_kind_at is_simple s.def a.node && may_retry a.status
    then option_and_then (λ (t : Timing). if nat_lt a.retry t.retry_count then Some t else None) a.timing else None

-- the same work once more, after the delay
abbrev pub retry_of : ℕ → Seen → Timing → NewAttempt
retry_of p a timing =
    record {
      node = a.node;
      iteration = a.iteration;
      begin = Queued timing (retry_delay timing a.retry);
      input = a.input;
      output = empty_table;
      reason = [];
      retry = a.retry + 1;
      retried = Some p;
      turn = 0;
      child = Nothing;
    }

abbrev pub is_optional : Sight → ℕ → Bool
is_optional s node = option_map_or (λ (n : Node). n.optional) (node_at s.def.nodes node) false

abbrev pub end_for : TaskStatus → FlowStatus
end_for task.TimedOut = flow.TimedOut
end_for status = flow.Failed

-- why it was lost: by its own reason, or else by its reference and status
abbrev pub lost_reason : Sight → Seen → List ℕ → List ℕ
lost_reason s a [] =
    codes "task " ++ option_map_or (λ (n : Node). reference_text n.reference a.iteration) (node_at s.def.nodes a.node) []
    ++ codes " " ++ task_status_text a.status
lost_reason s a reason = reason

abbrev pub unretried : Sight → ℕ → Seen → List Act
unretried s p a =
    if is_optional s a.node then Forgive p ∷ [] else End (end_for a.status) (Some (lost_reason s a a.reason)) None ∷ []

abbrev pub lost : Limits → Sight → ℕ → Seen → List Act
lost limits s p a = option_map_or (λ timing. adding_one limits s (retry_of p a timing)) (retried_by s a) (unretried s p a)

-- ---- r5: the next step

abbrev pub joined : Limits → Doc → ℕ → List Act
joined limits output p = within limits (output ∷ []) (Close p Completed None (Some output) ∷ [])

-- the DO_WHILE whose body is done in its turn goes on, or is completed
abbrev pub turned_on : Limits → ℕ → ℕ → Doc → Bool → List Act
turned_on limits p turn output true =
    let more = with_key (codes "iteration") (Doc.Int (pos (turn + 1))) output in
    within limits (more ∷ []) (TurnOn p more (turn + 1) ∷ [])
turned_on limits p turn output false = joined limits output p

abbrev pub turn_of_loop : Limits → Sight → ℕ → Seen → NodeKind → Option (List Act)
turn_of_loop limits s p a (Loop' count n body) =
    Some (turned_on limits p a.turn (turned_output s a.turn (Loop' count n body) a.output) (turns_on a.turn count a.input))
turn_of_loop limits s p a kind = None

abbrev pub turn_at_place : Limits → Sight → Node → ℕ → Option (List Act)
turn_at_place limits s n p = option_and_then (λ (a : Seen). turn_of_loop limits s p a n.kind) (slice_get s.attempts p)

abbrev pub take_step : Limits → Scene → Sight → Next → Option (List Act)
take_step limits scene s (Schedule index i) = option_map (λ (n : Node). schedule limits scene s n i) (node_at s.def.nodes index)
take_step limits scene s (Joins index i) = option_map (joined limits (join_output s index i)) (last_place s.attempts index i)
take_step limits scene s (Turns index i) =
    option_and_then (λ (n : Node). option_and_then (turn_at_place limits s n) (last_place s.attempts index i)) (node_at s.def.nodes index)
take_step limits scene s Waits = None
take_step limits scene s Done = None

-- ---- r6: all is done

-- the node at the end of a list
abbrev pub last_node : List Node → Option Node
last_node nodes = slice_get nodes (length nodes - 1)

-- the output of the flow's last node
abbrev pub last_output : Sight → Doc
last_output s = option_map_or (λ (n : Node). output_of (last_of s.attempts n.index 0)) (last_node s.def.nodes) empty_table

abbrev pub has_keys : Doc → Bool
has_keys d = option_map_or (λ es. nat_lt 0 (length es)) (as_table d) false

-- the output of a flow that completes: what its definition says, or else that of its last node
abbrev pub flow_output : Scene → Sight → Doc
flow_output scene s = if has_keys s.def.output then filled_in scene s s.def.output else last_output s

abbrev pub complete : Limits → Doc → List Act
complete limits output = within limits (output ∷ []) (End flow.Completed None (Some output) ∷ [])

abbrev pub all_done : Limits → Scene → Sight → Next → Option (List Act)
all_done limits scene s Done = Some (complete limits (flow_output scene s))
all_done limits scene s step = None

-- ---- the rules in their order

-- what each rule wants done of a flow that runs
abbrev pub r0 : Scene → Option (List Act)
r0 scene = if scene.orphan then Some parent_ended else None

abbrev pub r1 : Sight → Option (List Act)
r1 s = if s.over_time then Some (ran_too_long s.def.alert_only) else None

abbrev pub r2 : Sight → Option (List Act)
r2 s = option_map (λ found. past_due s found.0 found.1) (first_due s.due)

abbrev pub r3 : Limits → Scene → Sight → Option (List Act)
r3 limits scene s = option_map (λ found. child_ended limits scene found.0 found.1) (first_some s.ended)

abbrev pub r4 : Limits → Sight → Option (List Act)
r4 limits s = option_map (λ found. lost limits s found.0 found.1) (first_lost s.attempts)

abbrev pub r5 : Limits → Scene → Sight → Option (List Act)
r5 limits scene s = take_step limits scene s (next_step s.attempts s.def.nodes)

abbrev pub r6 : Limits → Scene → Sight → Option (List Act)
r6 limits scene s = all_done limits scene s (next_step s.attempts s.def.nodes)

-- the first that answers
abbrev pub first_of : List (Option (List Act)) → Option (List Act)
first_of [] = None
first_of (Some acts ∷ rest) = Some acts
first_of (None ∷ rest) = first_of rest

abbrev pub rules : Limits → Scene → Sight → List (Option (List Act))
rules limits scene s =
    r0 scene ∷ r1 s ∷ r2 s ∷ r3 limits scene s ∷ r4 limits s ∷ r5 limits scene s ∷ r6 limits scene s ∷ []

-- the first rule that applies to a flow, by what it wants done
unfoldable pub pick : Limits → Scene → Sight → Option (List Act)
pick limits scene s = if is_running s.status then first_of (rules limits scene s) else None

-- ---- what the numbers and the count of kept flows allow

pub record Room : Type 0 where
  -- no number is left for an attempt
  pub spent : Bool
  -- the store has no place for a flow
  pub full : Bool
  -- no number is left for a flow
  pub unnumbered : Bool

-- where `kept` flows are kept, and those that this decision started
abbrev pub room : Limits → ℕ → Turn → Room
room limits kept t =
    record {
      spent = nat_le (2 ^ 56) t.next_task;
      full = nat_le limits.flows (kept + length t.children);
      unnumbered = nat_le (2 ^ 56) t.next_flow;
    }

abbrev pub is_add : Act → Bool
is_add (Add n) = true
is_add _ = false

-- the attempt starts no flow
abbrev pub store_full : NewAttempt → NewAttempt
store_full n = record n { begin = Over FailedWithTerminalError; reason = codes "store full"; child = Refused }

abbrev pub fitted_child : Room → NewAttempt → Child → NewAttempt
fitted_child r n (NewFlow def input) = if r.full || r.unnumbered then store_full n else n
fitted_child r n TooLarge = if r.full then store_full n else n
fitted_child r n child = n

abbrev pub fitted : Room → Act → Act
fitted r (Add n) = Add (fitted_child r n n.child)
fitted r act = act

-- a flow that needs a number when none is left fails instead
abbrev pub allowed : Room → List Act → List Act
allowed r acts = if r.spent && list_any is_add acts then fails (codes "numbers spent") None else map (fitted r) acts

-- ---- the decision

-- what the first rule that applies does
abbrev pub choose : Limits → Scene → ℕ → ℕ → Turn → Option (List Act)
choose limits scene kept e t = option_map (allowed (room limits kept t)) (pick limits scene (sight e scene.children t.flow))

-- the first rule that applies, by what it leaves
unfoldable pub rule : Limits → Scene → ℕ → ℕ → Turn → Option Turn
rule limits scene kept e t = option_map (λ acts. made e acts t) (choose limits scene kept e t)

-- so many rules, one after another, as far as one applies
abbrev pub after : Limits → Scene → ℕ → ℕ → ℕ → Turn → Turn
after limits scene kept e zero t = t
after limits scene kept e (suc n) t = option_map_or (λ next. after limits scene kept e n next) (rule limits scene kept e t) t

-- how many rules can apply at most in one decision
abbrev pub rules_at_most : Limits → Turn → ℕ
rules_at_most limits t = 6 * max limits.attempts (length t.flow.attempts) + 2

-- the flow after rules were applied until none applies
unfoldable pub decide : Limits → Scene → ℕ → ℕ → Turn → Turn
decide limits scene kept e t = after limits scene kept e (rules_at_most limits t) t
