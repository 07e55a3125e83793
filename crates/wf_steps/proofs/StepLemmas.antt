-- No call of the machine itself answers that memory is wanting.
use Rattle.std.proofs.Common.{◌≡◌, ℕ, max, Bool, true, false, not, if◌then◌else◌, is_some, List, [], ◌∷◌, Option, None, Some, refl, sym, ap, ◌∙◌}
use Rattle.std.specs.Option.{option_map_or}
use Rattle.wf_doc.specs.declared.doc.Doc.{Doc}
use Rattle.wf_names.specs.declared.ids.FlowNo.{FlowNo}
use Rattle.wf_names.specs.declared.ids.TaskNo.{TaskNo}
use Rattle.wf_names.specs.declared.refusals.Refusal.TheVariants.{NotFound, Exists, StoreFull, DocumentLimit, NotUpdatable, NoMemory}
use Rattle.wf_names.specs.TaskStatus.{task_is_open}
use Rattle.wf_wire.specs.declared.limits.Limits.{Limits}
use Rattle.wf_machine.specs.declared.definition.FlowDef.{FlowDef}
use Rattle.wf_machine.specs.declared.definition.TaskDef.{TaskDef}
use Rattle.wf_machine.specs.declared.calling.TaskResult.{TaskResult}
use Rattle.wf_steps.specs.declared.calling.Call.{Call}
use Rattle.wf_steps.specs.declared.calling.Call.TheVariants.{PutTaskDefs, UpdateTaskDef, TaskDefs, TaskDefNamed, DropTaskDef, AddFlowDef, PutFlowDefs, FlowDefs, FlowDefNamed, DropFlowDef, Start, GetFlow, Running, Poll, GetTask, Update, Decide, Sweep, Operate, Remove, Shutdown, Look, Drain}
use Rattle.wf_machine.specs.declared.calling.Reply.{Reply}
use Rattle.wf_machine.specs.declared.calling.Reply.TheVariants.{Nothing, Refused}
use Rattle.wf_steps.specs.declared.operation.Operation.{Operation}
use Rattle.wf_steps.specs.declared.operation.Operation.TheVariants.{Terminate, Pause, Resume, Restart, Retry, Rerun, Skip}
use Rattle.wf_machine.specs.Operators.{Refusals, remove_refusals}
use Rattle.wf_machine.specs.State.{Attempt, Flow, Kept, State, attempt_numbered}
use Rattle.wf_machine.specs.Records.{is_kind_at}
use Rattle.wf_machine.specs.Tasks.{takes_update}
use Rattle.wf_machine.specs.Naming.{with_template}
use Rattle.wf_machine.specs.Queues.{next_waiting}
use Rattle.wf_machine.specs.Registered.{task_def_named, flow_def_at, flow_def_for}
use Rattle.wf_steps.specs.Calls.{Stepped, stepped, step, entry_of, call_made, put_task_defs, update_task_def, drop_task_def, get_task_def, register, put_flow_defs, drop_flow_def, get_flow_def, get_running, start, start_of, start_with, started, refused, is_full, is_too_long, needs, decide_flow, sweep, get_flow, get_task, task_read, poll, update, update_of, is_wanted, flow_updated, task_updated, settled_with, is_starved, unless, of_flow, operation_refusals, operation_reply, flow_operated, operate, is_parent_kept, flow_removed, remove}
use Rattle.wf_machine.specs.Flows.{flow_numbered, flow_of_task}

abbrev IsFed : Stepped → Type 0
IsFed x = is_starved x.reply ≡ false

fed-if : (b : Bool) (x y : Stepped) → IsFed x → IsFed y → IsFed (if b then x else y)
fed-if true x y p q = p
fed-if false x y p q = q

fed-found : {T : Type 0} (o : Option T) (f : T → Stepped) (x : Stepped) → ((v : T) → IsFed (f v)) → IsFed x → IsFed (option_map_or f o x)
fed-found None f x p q = q
fed-found (Some v) f x p q = p v

fed-put : (place e : ℕ) (defs : List TaskDef) (s : State) → IsFed (put_task_defs place e defs s)
fed-put place e [] s = refl
fed-put place e (c ∷ cs) s = refl

fed-start_with : (limits : Limits) (place e : ℕ) (def : FlowDef) (input : Doc) (correlation : List ℕ) (s : State) → IsFed (start_with limits place e def input correlation s)
fed-start_with limits place e def input correlation s =
    fed-if (is_full limits s) (refused StoreFull s) _ refl
    (fed-if (is_too_long limits input) (refused DocumentLimit s) (started limits place e def input correlation s) refl refl)

fed-start_of : (limits : Limits) (place e : ℕ) (def : Option FlowDef) (input : Doc) (correlation : List ℕ) (s : State) → IsFed (start_of limits place e def input correlation s)
fed-start_of limits place e None input correlation s = refl
fed-start_of limits place e (Some def) input correlation s = fed-start_with limits place e def (with_template def.template input) correlation s

fed-put_flows : (place e : ℕ) (defs : List FlowDef) (s : State) → IsFed (put_flow_defs place e defs s)
fed-put_flows place e [] s = refl
fed-put_flows place e (c ∷ cs) s = refl

fed-task_read : (task : TaskNo) (s : State) (f : Flow) → IsFed (task_read task s f)
fed-task_read task s f = fed-found (attempt_numbered task f.attempts) _ (refused NotFound s) (λ a. refl) refl

fed-task_updated : (limits : Limits) (place e : ℕ) (outcome : TaskResult) (f : Flow) (a : Attempt) (s : State) → IsFed (task_updated limits place e outcome f a s)
fed-task_updated limits place e outcome f a s =
    fed-if (not (task_is_open a.status)) _ _ refl
    (fed-if (not (is_kind_at takes_update f.def a.node)) (refused NotUpdatable s) (settled_with limits place e outcome f a s) refl refl)

fed-update_of : (limits : Limits) (place e : ℕ) (wanted : Option FlowNo) (task : TaskNo) (outcome : TaskResult) (k : Option Kept) (s : State) → IsFed (update_of limits place e wanted task outcome k s)
fed-update_of limits place e wanted task outcome None s = refl
fed-update_of limits place e wanted task outcome (Some k) s =
    fed-if (is_wanted wanted k.flow.number) (flow_updated limits place e task outcome k.flow s) (refused NotFound s)
    (fed-found (attempt_numbered task k.flow.attempts) _ (refused NotFound s) (λ a. fed-task_updated limits place e outcome k.flow a s) refl) refl

-- ---- what operators do

-- none of the refusals is want of memory
abbrev AreFed : Refusals → Type 0
AreFed [] = Unit {0}
AreFed (x ∷ rest) = (is_starved (Refused x.1) ≡ false) × AreFed rest

fed-unless : (refusals : Refusals) (made : Stepped) (s : State) → AreFed refusals → IsFed made → IsFed (unless refusals made s)
fed-unless [] made s h k = k
fed-unless ((holds, refusal) ∷ rest) made s h k = by_test holds (fed-unless rest made s h.1 k) where
  by_test : (b : Bool) → IsFed (unless rest made s) → IsFed (unless ((b, refusal) ∷ rest) made s)
  by_test true more = h.0
  by_test false more = more

fed-flow : (number : FlowNo) (made : Flow → Stepped) (s : State) → ((f : Flow) → IsFed (made f)) → IsFed (of_flow number made s)
fed-flow number made s h = fed-found (flow_numbered number s.flows) (λ (k : Kept). made k.flow) (refused NotFound s) (λ k. h k.flow) refl

operations-fed : (limits : Limits) (next_task : ℕ) (operation : Operation) (f : Flow) → AreFed (operation_refusals limits next_task operation f)
operations-fed limits next_task (Terminate reason) f = (refl, tt)
operations-fed limits next_task Pause f = (refl, tt)
operations-fed limits next_task Resume f = (refl, tt)
operations-fed limits next_task Restart f = (refl, (refl, (refl, tt)))
operations-fed limits next_task Retry f = (refl, (refl, (refl, tt)))
operations-fed limits next_task (Rerun task input) f = (refl, (refl, (refl, tt)))
operations-fed limits next_task (Skip reference input output) f = (refl, (refl, (refl, (refl, tt))))

reply-fed : (operation : Operation) (number : FlowNo) → is_starved (operation_reply operation number) ≡ false
reply-fed (Terminate reason) number = refl
reply-fed Pause number = refl
reply-fed Resume number = refl
reply-fed Restart number = refl
reply-fed Retry number = refl
reply-fed (Rerun task input) number = refl
reply-fed (Skip reference input output) number = refl

operate-fed : (limits : Limits) (place e : ℕ) (number : FlowNo) (operation : Operation) (s : State)
    → is_starved (operate limits place e number operation s).reply ≡ false
unfolding operate
operate-fed limits place e number operation s =
    fed-flow number (flow_operated limits place e operation s) s
    (λ f. fed-unless (operation_refusals limits s.next_task operation f) _ s (operations-fed limits s.next_task operation f) (reply-fed operation f.number))

remove-fed : (place e : ℕ) (number : FlowNo) (s : State) → is_starved (remove place e number s).reply ≡ false
unfolding remove
remove-fed place e number s =
    fed-flow number (flow_removed place e s) s (λ f. fed-unless (remove_refusals (is_parent_kept s f) f) _ s (refl, (refl, tt)) refl)

-- ---- all calls

pub never_starved : (limits : Limits) (place e : ℕ) (call : Call) (s : State) → is_starved (call_made limits place e call s).reply ≡ false
unfolding register start get_flow get_task poll update update_task_def drop_task_def get_task_def get_flow_def drop_flow_def get_running decide_flow sweep
never_starved limits place e (PutTaskDefs defs) s = fed-put place e defs s
never_starved limits place e (UpdateTaskDef def) s = fed-if (is_some (task_def_named def.name s.task_defs)) _ (refused NotFound s) refl refl
never_starved limits place e TaskDefs s = refl
never_starved limits place e (TaskDefNamed name) s = fed-found (task_def_named name s.task_defs) _ (refused NotFound s) (λ d. refl) refl
never_starved limits place e (DropTaskDef name) s = fed-if (is_some (task_def_named name s.task_defs)) _ (refused NotFound s) refl refl
never_starved limits place e (PutFlowDefs defs) s = fed-put_flows place e defs s
never_starved limits place e FlowDefs s = refl
never_starved limits place e (FlowDefNamed name version) s = fed-found (flow_def_for name version s.flow_defs) _ (refused NotFound s) (λ d. refl) refl
never_starved limits place e (DropFlowDef name version) s = fed-if (is_some (flow_def_at name version s.flow_defs)) _ (refused NotFound s) refl refl
never_starved limits place e (Running name version) s = refl
never_starved limits place e (AddFlowDef def) s =
    fed-if (is_some (flow_def_at def.name def.version s.flow_defs)) (refused Exists s) _ refl refl
never_starved limits place e (Start name version input correlation) s =
    fed-start_of limits place e (flow_def_for name version s.flow_defs) input correlation s
never_starved limits place e (GetFlow number tasks) s = fed-found (flow_numbered number s.flows) _ (refused NotFound s) (λ k. refl) refl
never_starved limits place e (Poll name worker) s = fed-found (next_waiting name e s.flows) _ _ (λ w. refl) refl
never_starved limits place e (GetTask task) s =
    fed-found (flow_of_task task s.flows) _ (refused NotFound s) (λ (k : Kept). fed-task_read task s k.flow) refl
never_starved limits place e (Update wanted task outcome) s =
    fed-update_of limits place e wanted task outcome (flow_of_task task s.flows) s
never_starved limits place e (Decide number) s = fed-found (flow_numbered number s.flows) _ (refused NotFound s) (λ k. refl) refl
never_starved limits place e Sweep s = fed-found (needs limits e s) _ (stepped s Nothing) (λ k. refl) refl
never_starved limits place e (Operate number operation) s = operate-fed limits place e number operation s
never_starved limits place e (Remove number) s = remove-fed place e number s
never_starved limits place e Shutdown s = refl
never_starved limits place e (Look number) s = refl
never_starved limits place e Drain s = refl

-- where the machine's call was made, its entry isn't starved
pub made_step : (limits : Limits) (place caller moment : ℕ) (call : Call) (s new : State) (reply : Reply)
    → stepped new reply ≡ call_made limits place (max s.last moment) call s → stepped new reply ≡ step limits place s (entry_of caller moment call reply)
made_step limits place caller moment call s new reply made =
    let made_call = call_made limits place (max s.last moment) call s in
    let fed : is_starved reply ≡ false = ap (λ (x : Stepped). is_starved x.reply) made ∙ never_starved limits place (max s.last moment) call s in
    made ∙ sym (ap (λ b. if b then refused NoMemory s else made_call) fed)
