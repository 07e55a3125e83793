-- One step of the machine: what each call makes of the state, and its reply.
use Rattle.std.specs.Prelude.{◌≡◌, ℕ, ◌+◌, ◌≤◌, ◌^◌, ◌==◌, ◌&&◌, ◌||◌, max, nat_le, nat_lt, Bool, true, false, not, if◌then◌else◌, is_some, List, [], ◌∷◌, ◌++◌, length, map, filter, Option, None, Some}
use Rattle.std.specs.List.{find}
use Rattle.std.specs.Option.{option_map_or}
use Rattle.wf_doc.specs.declared.doc.Doc.{Doc}
use Rattle.wf_doc.specs.declared.doc.Doc.TheVariants.{Text, List as Listed}
use Rattle.wf_doc.specs.Json.{printed}
use Rattle.wf_names.specs.declared.ids.FlowNo.{FlowNo}
use Rattle.wf_names.specs.declared.ids.TaskNo.{TaskNo}
use Rattle.wf_names.specs.declared.ids.IdKind.TheVariants as kind
use Rattle.wf_names.specs.declared.refusals.Refusal.{Refusal}
use Rattle.wf_names.specs.declared.refusals.Refusal.TheVariants.{NotFound, Exists, NotUpdatable, StoreFull, DocumentLimit, NoMemory}
use Rattle.wf_names.specs.TaskStatus.{task_is_open}
use Rattle.wf_wire.specs.declared.limits.Limits.{Limits}
use Rattle.wf_machine.specs.declared.definition.FlowDef.{FlowDef}
use Rattle.wf_machine.specs.declared.definition.TaskDef.{TaskDef}
use Rattle.wf_machine.specs.declared.calling.TaskResult.{TaskResult}
use Rattle.wf_steps.specs.declared.calling.Call.{Call}
use Rattle.wf_steps.specs.declared.calling.Call.TheVariants.{PutTaskDefs, UpdateTaskDef, TaskDefs, TaskDefNamed, DropTaskDef, AddFlowDef, PutFlowDefs, FlowDefs, FlowDefNamed, DropFlowDef, Start, GetFlow, Running, Poll, GetTask, Update, Decide, Sweep, Operate, Remove, Shutdown, Look, Drain}
use Rattle.wf_machine.specs.declared.calling.Reply.{Reply}
use Rattle.wf_machine.specs.declared.calling.Reply.TheVariants.{Accepted, Id, Json, Nothing, Refused}
use Rattle.wf_steps.specs.declared.calling.Entry.{Entry}
use Rattle.wf_steps.specs.declared.operation.Operation.{Operation}
use Rattle.wf_steps.specs.declared.operation.Operation.TheVariants.{Terminate, Pause, Resume, Restart, Retry, Rerun, Skip}
use Rattle.wf_machine.specs.State.{Attempt, Flow, Kept, State, attempt_numbered, new_flow, with_attempt}
use Rattle.wf_rules.specs.Sight.{scene_in}
use Rattle.wf_machine.specs.Naming.{with_template}
use Rattle.wf_machine.specs.Registered.{is_named, is_version, flow_def_at, flow_def_for, task_def_named, with_task_def, with_task_defs, without_task_def, with_flow_def, with_flow_defs, without_flow_def}
use Rattle.wf_machine.specs.Flows.{flow_numbered, flow_of_task, new_kept, removed, revised}
use Rattle.wf_machine.specs.Operators.{Refusals, first_refusal, pause_refusals, paused, resume_refusals, resumed, terminate_refusals, terminated, remove_refusals, restart_refusals, restarted, retry_refusals, retried, rerun_refusals, rerun, skip_refusals, skipped}
use Rattle.wf_rules.specs.Acts.{Turn}
use Rattle.wf_rules.specs.Rules.{choose, decide, is_running}
use Rattle.wf_rules.specs.Plans.{turn_at}
use Rattle.wf_machine.specs.Records.{is_kind_at, is_simple}
use Rattle.wf_machine.specs.Tasks.{handed_out, is_result_status, result_applied, takes_update}
use Rattle.wf_machine.specs.Queues.{Waiting, next_waiting, with_hand}
use Rattle.wf_machine.specs.Documents.{flow_document, flow_id, task_document}

-- what a step leaves, and its reply
pub record Stepped : Type 0 where
  pub state : State
  pub reply : Reply

abbrev pub stepped : State → Reply → Stepped
stepped s reply = record { state = s; reply = reply }

abbrev pub refused : Refusal → State → Stepped
refused r s = record { state = s; reply = Refused r }

-- ---- registrations: each by its refusals in their order, and then by what it changes

-- the definitions change at the moment e, by the entry at that place
abbrev pub with_task_list : ℕ → ℕ → List TaskDef → State → Stepped
with_task_list place e defs s = stepped (record s { last = e; task_defs = defs; defs_revision = place }) Accepted

abbrev pub with_flow_list : ℕ → ℕ → List FlowDef → State → Stepped
with_flow_list place e defs s = stepped (record s { last = e; flow_defs = defs; defs_revision = place }) Accepted

-- an empty list registers nothing
abbrev pub put_task_defs : ℕ → ℕ → List TaskDef → State → Stepped
put_task_defs place e [] s = stepped s Accepted
put_task_defs place e (c ∷ cs) s = with_task_list place e (with_task_defs (c ∷ cs) s.task_defs) s

-- a task of that name has to be registered
unfoldable pub update_task_def : ℕ → ℕ → TaskDef → State → Stepped
update_task_def place e def s =
    if is_some (task_def_named def.name s.task_defs) then with_task_list place e (with_task_def def s.task_defs) s
    else refused NotFound s

unfoldable pub drop_task_def : ℕ → ℕ → List ℕ → State → Stepped
drop_task_def place e name s =
    if is_some (task_def_named name s.task_defs) then with_task_list place e (without_task_def name s.task_defs) s
    else refused NotFound s

-- a registration is refused where the name and version are registered
unfoldable pub register : ℕ → ℕ → FlowDef → State → Stepped
register place e def s =
    if is_some (flow_def_at def.name def.version s.flow_defs) then refused Exists s
    else with_flow_list place e (with_flow_def def s.flow_defs) s

-- an empty list registers nothing
abbrev pub put_flow_defs : ℕ → ℕ → List FlowDef → State → Stepped
put_flow_defs place e [] s = stepped s Accepted
put_flow_defs place e (c ∷ cs) s = with_flow_list place e (with_flow_defs (c ∷ cs) s.flow_defs) s

unfoldable pub drop_flow_def : ℕ → ℕ → List ℕ → ℕ → State → Stepped
drop_flow_def place e name version s =
    if is_some (flow_def_at name version s.flow_defs) then with_flow_list place e (without_flow_def name version s.flow_defs) s
    else refused NotFound s

-- ---- reading what is registered: as it was given

abbrev pub listed : List Doc → State → Stepped
listed docs s = stepped s (Json (Listed docs))

-- all tasks, by name
abbrev pub get_task_defs : State → Stepped
get_task_defs s = listed (map (λ (d : TaskDef). d.document) s.task_defs) s

unfoldable pub get_task_def : List ℕ → State → Stepped
get_task_def name s =
    option_map_or (λ (d : TaskDef). stepped s (Json d.document)) (task_def_named name s.task_defs) (refused NotFound s)

-- all workflows, by name and then by version
abbrev pub get_flow_defs : State → Stepped
get_flow_defs s = listed (map (λ (d : FlowDef). d.document) s.flow_defs) s

-- without a version that of the greatest
unfoldable pub get_flow_def : List ℕ → Option ℕ → State → Stepped
get_flow_def name version s =
    option_map_or (λ (d : FlowDef). stepped s (Json d.document)) (flow_def_for name version s.flow_defs) (refused NotFound s)

-- ---- decisions

-- a kept flow is changed, as the entry at that place
abbrev pub with_flow : ℕ → Flow → Flow → State → State
with_flow place before now s = record s { flows = map (revised place before now) s.flows }

-- a flow as it is decided in a state at the moment e
abbrev pub decided : Limits → ℕ → Flow → State → Turn
decided limits e f s =
    decide limits (scene_in s f) (length s.flows) e (turn_at f (record { flow = s.next_flow; task = s.next_task }))

-- the flow that was so before is so now, and is decided
abbrev pub with_decided : Limits → ℕ → ℕ → Flow → Flow → State → State
with_decided limits place e before now s =
    let turn = decided limits e now s in
    let there = with_flow place before turn.flow s in
    record there {
      last = e;
      next_flow = turn.next_flow;
      next_task = turn.next_task;
      flows = there.flows ++ map (new_kept place) turn.children;
    }

-- no rule applies to the flow at the moment e
abbrev pub is_settled : Limits → ℕ → State → Flow → Bool
is_settled limits e s f =
    not
    (is_some
    (choose limits (scene_in s f) (length s.flows) e (turn_at f (record { flow = s.next_flow; task = s.next_task }))))

-- a flow to which no rule applies leaves all as it was
abbrev pub settle : Limits → ℕ → ℕ → Flow → State → State
settle limits place e f s = if is_settled limits e s f then s else with_decided limits place e f f s

-- the flow of the least number that has something to be decided
unfoldable pub needs : Limits → ℕ → State → Option Kept
needs limits e s = find (λ k. not (is_settled limits e s k.flow)) s.flows

unfoldable pub decide_flow : Limits → ℕ → ℕ → FlowNo → State → Stepped
decide_flow limits place e number s =
    option_map_or (λ (k : Kept). stepped (settle limits place e k.flow s) Accepted) (flow_numbered number s.flows) (refused NotFound s)

unfoldable pub sweep : Limits → ℕ → ℕ → State → Stepped
sweep limits place e s =
    option_map_or (λ (k : Kept). stepped (settle limits place e k.flow s) (Id kind.Flow k.flow.number.0)) (needs limits e s) (stepped s Nothing)

-- ---- starts

-- the store holds as many flows as it may, or no number is left
abbrev pub is_full : Limits → State → Bool
is_full limits s = nat_le limits.flows (length s.flows) || nat_le (2 ^ 56) s.next_flow

-- an input whose text is longer than may be
abbrev pub is_too_long : Limits → Doc → Bool
is_too_long limits input = nat_lt limits.document (length (printed input))

-- a new flow of the definition, under the next number, is kept and decided
abbrev pub started : Limits → ℕ → ℕ → FlowDef → Doc → List ℕ → State → Stepped
started limits place e def input correlation s =
    let flow = new_flow (record { 0 = s.next_flow }) def input correlation None 0 e in
    let there = record s { next_flow = s.next_flow + 1; flows = s.flows ++ new_kept place flow ∷ [] } in
    stepped (with_decided limits place e flow flow there) (Id kind.Flow s.next_flow)

-- the input has the keys of the definition's template that it lacks
abbrev pub start_with : Limits → ℕ → ℕ → FlowDef → Doc → List ℕ → State → Stepped
start_with limits place e def input correlation s =
    if is_full limits s then refused StoreFull s
    else if is_too_long limits input then refused DocumentLimit s
    else started limits place e def input correlation s

abbrev pub start_of : Limits → ℕ → ℕ → Option FlowDef → Doc → List ℕ → State → Stepped
start_of limits place e None input correlation s = refused NotFound s
start_of limits place e (Some def) input correlation s = start_with limits place e def (with_template def.template input) correlation s

unfoldable pub start : Limits → ℕ → ℕ → List ℕ → Option ℕ → Doc → List ℕ → State → Stepped
start limits place e name version input correlation s =
    start_of limits place e (flow_def_for name version s.flow_defs) input correlation s

-- ---- reading flows and attempts

unfoldable pub get_flow : FlowNo → Bool → State → Stepped
get_flow number tasks s =
    option_map_or (λ (k : Kept). stepped s (Json (flow_document s.mark tasks k.flow))) (flow_numbered number s.flows) (refused NotFound s)

-- a flow of that name, and of that version where one is given
abbrev pub is_of : List ℕ → Option ℕ → FlowDef → Bool
is_of name None def = is_named name def
is_of name (Some version) def = is_version name version def

abbrev pub runs_as : List ℕ → Option ℕ → Kept → Bool
runs_as name version k = is_running k.flow.status && is_of name version k.flow.def

abbrev pub id_of : ℕ → Kept → Doc
id_of mark k = Text (flow_id mark k.flow.number)

-- the ids of the running flows of a workflow, by number
unfoldable pub get_running : List ℕ → Option ℕ → State → Stepped
get_running name version s = listed (map (id_of s.mark) (filter (runs_as name version) s.flows)) s

abbrev pub task_read : TaskNo → State → Flow → Stepped
task_read task s f =
    option_map_or (λ a. stepped s (Json (task_document s.mark f a))) (attempt_numbered task f.attempts) (refused NotFound s)

unfoldable pub get_task : TaskNo → State → Stepped
get_task task s = option_map_or (λ (k : Kept). task_read task s k.flow) (flow_of_task task s.flows) (refused NotFound s)

-- ---- hand-outs

-- the attempt is handed out, and the hand-out is noted
abbrev pub hand_over : ℕ → ℕ → List ℕ → List ℕ → Waiting → State → Stepped
hand_over place e name worker w s =
    let given = handed_out e worker w.attempt in
    let flow = record w.flow { attempts = with_attempt given w.flow.attempts } in
    stepped (record (with_flow place w.flow flow s) { last = e; hands = with_hand name e s.hands }) (Json (task_document s.mark flow given))

-- a poll decides nothing
unfoldable pub poll : ℕ → ℕ → List ℕ → List ℕ → State → Stepped
poll place e name worker s =
    option_map_or (λ w. hand_over place e name worker w s) (next_waiting name e s.flows) (stepped s Nothing)

-- ---- updates

abbrev pub is_wanted : Option FlowNo → FlowNo → Bool
is_wanted None number = true
is_wanted (Some wanted) number = wanted.0 == number.0

-- the attempt takes the result, and its flow is decided
abbrev pub settled_with : Limits → ℕ → ℕ → TaskResult → Flow → Attempt → State → Stepped
settled_with limits place e outcome f a s =
    let applied = result_applied e (is_kind_at is_simple f.def a.node) outcome a in
    stepped (with_decided limits place e f (record f { attempts = with_attempt applied f.attempts }) s) (Id kind.Task a.number.0)

-- an attempt that has ended keeps what it has
abbrev pub task_updated : Limits → ℕ → ℕ → TaskResult → Flow → Attempt → State → Stepped
task_updated limits place e outcome f a s =
    if not (task_is_open a.status) then stepped s (Id kind.Task a.number.0)
    else if not (is_kind_at takes_update f.def a.node) then refused NotUpdatable s
    else settled_with limits place e outcome f a s

abbrev pub flow_updated : Limits → ℕ → ℕ → TaskNo → TaskResult → Flow → State → Stepped
flow_updated limits place e task outcome f s =
    option_map_or (λ a. task_updated limits place e outcome f a s) (attempt_numbered task f.attempts) (refused NotFound s)

abbrev pub update_of : Limits → ℕ → ℕ → Option FlowNo → TaskNo → TaskResult → Option Kept → State → Stepped
update_of limits place e wanted task outcome None s = refused NotFound s
update_of limits place e wanted task outcome (Some k) s =
    if is_wanted wanted k.flow.number then flow_updated limits place e task outcome k.flow s else refused NotFound s

unfoldable pub update : Limits → ℕ → ℕ → Option FlowNo → TaskNo → TaskResult → State → Stepped
update limits place e wanted task outcome s = update_of limits place e wanted task outcome (flow_of_task task s.flows) s

-- ---- what operators do

abbrev pub or_refused : Option Refusal → Stepped → State → Stepped
or_refused None made s = made
or_refused (Some refusal) made s = refused refusal s

-- the step is made where no refusal holds
abbrev pub unless : Refusals → Stepped → State → Stepped
unless refusals made s = or_refused (first_refusal refusals) made s

-- with the kept flow of that number
abbrev pub of_flow : FlowNo → (Flow → Stepped) → State → Stepped
of_flow number made s = option_map_or (λ (k : Kept). made k.flow) (flow_numbered number s.flows) (refused NotFound s)

-- by what an operation is refused; an attempt that it adds would take the next number
abbrev pub operation_refusals : Limits → ℕ → Operation → Flow → Refusals
operation_refusals limits next_task (Terminate reason) f = terminate_refusals f
operation_refusals limits next_task Pause f = pause_refusals f
operation_refusals limits next_task Resume f = resume_refusals f
operation_refusals limits next_task Restart f = restart_refusals f
operation_refusals limits next_task Retry f = retry_refusals f
operation_refusals limits next_task (Rerun task input) f = rerun_refusals task f
operation_refusals limits next_task (Skip reference input output) f = skip_refusals limits reference next_task f

-- what it makes of the flow at the moment e
abbrev pub operated : ℕ → ℕ → Operation → Flow → Flow
operated e next_task (Terminate reason) f = terminated e reason f
operated e next_task Pause f = paused f
operated e next_task Resume f = resumed f
operated e next_task Restart f = restarted e f
operated e next_task Retry f = retried e f
operated e next_task (Rerun task input) f = rerun e task input f
operated e next_task (Skip reference input output) f = skipped e reference input output (record { 0 = next_task }) f

-- the number of the next attempt, after it
abbrev pub next_after : Operation → ℕ → ℕ
next_after (Skip reference input output) next_task = next_task + 1
next_after _ next_task = next_task

-- nothing is to be decided of a flow that is ended or paused
abbrev pub stops_flow : Operation → Bool
stops_flow (Terminate reason) = true
stops_flow Pause = true
stops_flow _ = false

-- a rerun answers the flow's id
abbrev pub operation_reply : Operation → FlowNo → Reply
operation_reply (Rerun task input) number = Id kind.Flow number.0
operation_reply _ number = Accepted

-- the flow that was so before is so now, and isn't decided
abbrev pub with_undecided : ℕ → ℕ → Flow → Flow → State → State
with_undecided place e before now s = record (with_flow place before now s) { last = e }

abbrev pub with_operated : Limits → ℕ → ℕ → Operation → Flow → State → State
with_operated limits place e operation f s =
    let now = operated e s.next_task operation f in
    if stops_flow operation then with_undecided place e f now s
    else with_decided limits place e f now (record s { next_task = next_after operation s.next_task })

abbrev pub flow_operated : Limits → ℕ → ℕ → Operation → State → Flow → Stepped
flow_operated limits place e operation s f =
    unless (operation_refusals limits s.next_task operation f)
    (stepped (with_operated limits place e operation f s) (operation_reply operation f.number))
    s

unfoldable pub operate : Limits → ℕ → ℕ → FlowNo → Operation → State → Stepped
operate limits place e number operation s = of_flow number (flow_operated limits place e operation s) s

abbrev pub is_parent_kept : State → Flow → Bool
is_parent_kept s f = option_map_or (λ (parent : FlowNo × TaskNo). is_some (flow_numbered parent.0 s.flows)) f.parent false

-- the flow goes with its attempts
abbrev pub flow_removed : ℕ → ℕ → State → Flow → Stepped
flow_removed place e s f =
    unless (remove_refusals (is_parent_kept s f) f) (stepped (record s { last = e; flows = removed place f s.flows }) Accepted) s

unfoldable pub remove : ℕ → ℕ → FlowNo → State → Stepped
remove place e number s = of_flow number (flow_removed place e s) s

-- ---- steps

-- a call that a request can be: a result has one of the statuses that a worker may tell, and a delay of at most 2147483647
-- seconds
abbrev pub IsProper : Call → Type 0
IsProper (Update wanted task outcome) = (is_result_status outcome.status ≡ true) × (outcome.callback ≤ 2147483647)
IsProper call = Unit {0}

-- what the call makes of the state at the moment e, as the entry at that place
abbrev pub call_made : Limits → ℕ → ℕ → Call → State → Stepped
call_made limits place e (PutTaskDefs defs) s = put_task_defs place e defs s
call_made limits place e (UpdateTaskDef def) s = update_task_def place e def s
call_made limits place e TaskDefs s = get_task_defs s
call_made limits place e (TaskDefNamed name) s = get_task_def name s
call_made limits place e (DropTaskDef name) s = drop_task_def place e name s
call_made limits place e (AddFlowDef def) s = register place e def s
call_made limits place e (PutFlowDefs defs) s = put_flow_defs place e defs s
call_made limits place e FlowDefs s = get_flow_defs s
call_made limits place e (FlowDefNamed name version) s = get_flow_def name version s
call_made limits place e (DropFlowDef name version) s = drop_flow_def place e name version s
call_made limits place e (Start name version input correlation) s = start limits place e name version input correlation s
call_made limits place e (GetFlow number tasks) s = get_flow number tasks s
call_made limits place e (Running name version) s = get_running name version s
call_made limits place e (Poll name worker) s = poll place e name worker s
call_made limits place e (GetTask task) s = get_task task s
call_made limits place e (Update wanted task outcome) s = update limits place e wanted task outcome s
call_made limits place e (Decide number) s = decide_flow limits place e number s
call_made limits place e Sweep s = sweep limits place e s
call_made limits place e (Operate number operation) s = operate limits place e number operation s
call_made limits place e (Remove number) s = remove place e number s
call_made limits place e Shutdown s = stepped s Accepted
call_made limits place e (Look number) s = stepped s Nothing
call_made limits place e Drain s = stepped s Nothing

-- one step: a call acts at its moment, or at that of the last change where that is later; a starved entry
-- changes nothing
abbrev pub step : Limits → ℕ → State → Entry → Stepped
step limits place s entry =
    if entry.starved then refused NoMemory s else call_made limits place (max s.last entry.moment) entry.call s

-- the reply to a call that found no memory
abbrev pub is_starved : Reply → Bool
is_starved (Refused NoMemory) = true
is_starved _ = false

-- the entry of a call that was answered so: it is starved where the answer is that memory was wanting
abbrev pub entry_of : ℕ → ℕ → Call → Reply → Entry
entry_of caller moment call reply = record { caller = caller; moment = moment; call = call; starved = is_starved reply }
