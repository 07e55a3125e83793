-- What operators do to a flow: by what each call is refused, in the order written, and the change that it makes.
use Rattle.std.specs.Prelude.{ℕ, ◌^◌, ◌&&◌, ◌||◌, not, nat_le, Bool, true, false, if◌then◌else◌, is_some, List, [], ◌∷◌, ◌++◌, length, map, Option, None, Some, unwrap_or}
use Rattle.std.specs.List.{find, list_any}
use Rattle.std.specs.Option.{option_map_or}
use Rattle.wf_doc.specs.declared.doc.Doc.{Doc}
use Rattle.wf_names.specs.declared.ids.TaskNo.{TaskNo}
use Rattle.wf_names.specs.declared.refusals.Refusal.{Refusal}
use Rattle.wf_names.specs.declared.refusals.Refusal.TheVariants.{NotFound, NotRunning, NotPaused, NotTerminal, WasCompleted, NotRestartable, IsChild, NotRerunnable, AlreadyScheduled, AttemptLimit}
use Rattle.wf_names.specs.declared.statuses.FlowStatus.TheVariants as flow
use Rattle.wf_names.specs.declared.statuses.TaskStatus.TheVariants as task
use Rattle.wf_names.specs.TaskStatus.{task_is_successful}
use Rattle.wf_names.specs.FlowStatus.{flow_is_open}
use Rattle.wf_wire.specs.declared.limits.Limits.{Limits}
use Rattle.wf_machine.specs.declared.definition.FlowDef.{FlowDef}
use Rattle.wf_machine.specs.declared.definition.Node.{Node}
use Rattle.wf_machine.specs.declared.definition.NodeKind.{NodeKind, Switch, Fork', Join, Loop', Terminate}
use Rattle.wf_machine.specs.Text.{same_text}
use Rattle.wf_machine.specs.State.{Attempt, Flow, empty_table, flow_ended, is_numbered, new_attempt}
use Rattle.wf_machine.specs.Sight.{seen}
use Rattle.wf_machine.specs.Marks.{all_nodes, is_of, last_of}
use Rattle.wf_machine.specs.Records.{is_fork, is_loop, is_kind_at, is_simple, is_skipped}
use Rattle.wf_machine.specs.Naming.{is_looped, stands_in}
use Rattle.wf_machine.specs.Statuses.{is_running, is_paused, is_completed}

-- ---- refusals

-- what a call may be refused by, and whether it is, in the order of the answers
abbrev pub Refusals : Type 0
Refusals = List (Bool × Refusal)

-- the first that holds
abbrev pub first_refusal : Refusals → Option Refusal
first_refusal [] = None
first_refusal ((holds, refusal) ∷ rest) = if holds then Some refusal else first_refusal rest

-- the flow has a parent, kept or not
abbrev pub is_child : Flow → Bool
is_child f = is_some f.parent

-- ---- pause, resume, terminate

abbrev pub pause_refusals : Flow → Refusals
pause_refusals f = (not (is_running f.status), NotRunning) ∷ []

abbrev pub paused : Flow → Flow
paused f = record f { status = flow.Paused }

abbrev pub resume_refusals : Flow → Refusals
resume_refusals f = (not (is_paused f.status), NotPaused) ∷ []

abbrev pub resumed : Flow → Flow
resumed f = record f { status = flow.Running }

abbrev pub terminate_refusals : Flow → Refusals
terminate_refusals f = (not (flow_is_open f.status), NotRunning) ∷ []

-- its open attempts are canceled, and its output stays as it was
abbrev pub terminated : ℕ → List ℕ → Flow → Flow
terminated e reason f = flow_ended flow.Terminated e (record f { reason = reason })

-- ---- remove

-- the record of a flow can't tell whether its parent flow is kept
abbrev pub remove_refusals : Bool → Flow → Refusals
remove_refusals parent_kept f = (parent_kept, IsChild) ∷ (flow_is_open f.status, NotTerminal) ∷ []

-- ---- restart, retry, rerun: the flow runs once more

-- from the moment e on: its number, definition, input and correlation, and the moment at which it was made, stay
abbrev pub reopened : ℕ → Flow → Flow
reopened e f = record f { status = flow.Running; reason = []; started = e; ended = None; output = empty_table; noted = false }

-- without attempts and variables
abbrev pub cleared : Flow → Flow
cleared f = record f { attempts = []; variables = empty_table }

-- a superseded attempt stays in the list, and marks are told without it
abbrev pub superseded : Attempt → Attempt
superseded a = record a { superseded = true }

-- the attempts of which those are superseded that pass: each is told by itself and by those after it, as they were
abbrev pub superseded_where : (Attempt → List Attempt → Bool) → List Attempt → List Attempt
superseded_where test [] = []
superseded_where test (a ∷ rest) = (if test a rest then superseded a else a) ∷ superseded_where test rest

-- the attempt is the last of its node and iteration, where `rest` come after it
abbrev pub is_last : Attempt → List Attempt → Bool
is_last a rest = not a.superseded && not (list_any (λ b. is_of a.node a.iteration (seen b)) rest)

abbrev pub restart_refusals : Flow → Refusals
restart_refusals f =
    (is_child f, IsChild) ∷ (flow_is_open f.status, NotTerminal) ∷ (is_completed f.status && not f.def.restartable, NotRestartable) ∷ []

abbrev pub restarted : ℕ → Flow → Flow
restarted e f = cleared (reopened e f)

abbrev pub retry_refusals : Flow → Refusals
retry_refusals f = (is_child f, IsChild) ∷ (flow_is_open f.status, NotTerminal) ∷ (is_completed f.status, WasCompleted) ∷ []

abbrev pub is_terminate : NodeKind → Bool
is_terminate Terminate = true
is_terminate kind = false

-- a retry takes the attempt away: it is the last of its node, and wasn't successful or ended the flow
abbrev pub is_redone : FlowDef → Attempt → List Attempt → Bool
is_redone def a rest = is_last a rest && (not (task_is_successful a.status) || is_kind_at is_terminate def a.node)

abbrev pub retried : ℕ → Flow → Flow
retried e f = record (reopened e f) { attempts = superseded_where (is_redone f.def) f.attempts }

abbrev pub is_join : NodeKind → Bool
is_join (Join references) = true
is_join kind = false

-- a rerun may begin at the attempt, where `rest` come after it
abbrev pub begins_rerun : FlowDef → Attempt → List Attempt → Bool
begins_rerun def a rest =
    is_last a rest && not (is_skipped a.status) && not (is_kind_at is_join def a.node) && not (stands_in is_fork def.nodes a.node)
    && not (stands_in is_loop def.nodes a.node)

-- the node of the attempt of that number, where a rerun may begin at it
abbrev pub node_to_rerun : FlowDef → TaskNo → List Attempt → Option ℕ
node_to_rerun def task [] = None
node_to_rerun def task (a ∷ rest) =
    if is_numbered task a then (if begins_rerun def a rest then Some a.node else None) else node_to_rerun def task rest

abbrev pub rerun_refusals : TaskNo → Flow → Refusals
rerun_refusals task f =
    (is_child f, IsChild) ∷ (flow_is_open f.status, NotTerminal)
    ∷ (not (is_some (node_to_rerun f.def task f.attempts)), NotRerunnable)
    ∷ []

-- its node is that one or comes after it: the index of a node counts it before its inner lists, and these before the next node
abbrev pub is_from : ℕ → Attempt → List Attempt → Bool
is_from node a rest = nat_le node a.node

-- from that node on, with a new input where one is given
abbrev pub rerun_from : ℕ → Option Doc → ℕ → Flow → Flow
rerun_from e input node f =
    record (reopened e f) { input = unwrap_or input f.input; attempts = superseded_where (is_from node) f.attempts }

abbrev pub rerun : ℕ → TaskNo → Option Doc → Flow → Flow
rerun e task input f = option_map_or (λ node. rerun_from e input node f) (node_to_rerun f.def task f.attempts) f

-- ---- skip

-- the types whose tasks can be skipped
abbrev pub takes_skip : NodeKind → Bool
takes_skip (Switch choice) = false
takes_skip (Fork' s branches) = false
takes_skip (Join references) = false
takes_skip (Loop' count s body) = false
takes_skip kind = true

abbrev pub can_skip : List Node → List ℕ → Node → Bool
can_skip nodes reference n = same_text n.reference reference && takes_skip n.kind && not (is_looped nodes n)

-- the node outside loops that has the reference and can be skipped
abbrev pub node_to_skip : List Node → List ℕ → Option Node
node_to_skip nodes reference = find (can_skip nodes reference) (all_nodes nodes)

-- the node outside loops has a last attempt
abbrev pub has_last : List Attempt → Node → Bool
has_last attempts n = is_some (last_of (map seen attempts) n.index 0)

-- superseded attempts count towards the limit, and no number is left at the last one
abbrev pub skip_refusals : Limits → List ℕ → ℕ → Flow → Refusals
skip_refusals limits reference next_task f =
    (not (is_running f.status), NotRunning) ∷ (not (is_some (node_to_skip f.def.nodes reference)), NotFound)
    ∷ (option_map_or (has_last f.attempts) (node_to_skip f.def.nodes reference) false, AlreadyScheduled)
    ∷ (nat_le limits.attempts (length f.attempts) || nat_le (2 ^ 56) next_task, AttemptLimit)
    ∷ []

-- an attempt that workers don't poll counts as polled when it is made
abbrev pub skipped_at : ℕ → TaskNo → Doc → Doc → Node → Attempt
skipped_at e number input output n =
    record (new_attempt number n.index 0 task.Skipped input e) { output = output; first_poll = if is_simple n.kind then None else Some e }

abbrev pub skipped : ℕ → List ℕ → Doc → Doc → TaskNo → Flow → Flow
skipped e reference input output number f =
    option_map_or (λ n. record f { attempts = f.attempts ++ skipped_at e number input output n ∷ [] }) (node_to_skip f.def.nodes reference) f
