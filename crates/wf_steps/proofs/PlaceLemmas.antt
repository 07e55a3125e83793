-- The place of an entry changes revisions alone.
use Rattle.std.proofs.Common.{◌≡◌, ℕ, ◌+◌, max, Bool, true, false, not, if◌then◌else◌, is_some, List, [], ◌∷◌, ◌++◌, map, length, Option, None, Some, refl, sym, ap, ◌∙◌}
use Rattle.std.proofs.lemmas.List.{length-map, map-append}
use Rattle.std.specs.Prelude.{filter, option_map}
use Rattle.std.specs.List.{find}
use Rattle.std.specs.Option.{option_map_or}
use Rattle.wf_doc.specs.declared.doc.Doc.{Doc}
use Rattle.wf_doc.specs.declared.doc.Doc.TheVariants.{List as Listed}
use Rattle.wf_names.specs.declared.ids.FlowNo.{FlowNo}
use Rattle.wf_names.specs.declared.ids.TaskNo.{TaskNo}
use Rattle.wf_names.specs.declared.ids.IdKind.TheVariants as kind
use Rattle.wf_names.specs.declared.refusals.Refusal.{Refusal}
use Rattle.wf_names.specs.declared.refusals.Refusal.TheVariants.{NotFound, StoreFull, DocumentLimit, NotUpdatable}
use Rattle.wf_names.specs.TaskStatus.{task_is_open}
use Rattle.wf_wire.specs.declared.limits.Limits.{Limits}
use Rattle.wf_machine.specs.declared.definition.FlowDef.{FlowDef}
use Rattle.wf_machine.specs.declared.definition.TaskDef.{TaskDef}
use Rattle.wf_machine.specs.declared.calling.TaskResult.{TaskResult}
use Rattle.wf_steps.specs.declared.calling.Call.{Call}
use Rattle.wf_steps.specs.declared.calling.Call.TheVariants.{PutTaskDefs, UpdateTaskDef, TaskDefs, TaskDefNamed, DropTaskDef, AddFlowDef, PutFlowDefs, FlowDefs, FlowDefNamed, DropFlowDef, Start, GetFlow, Running, Poll, GetTask, Update, Decide, Sweep, Operate, Remove, Shutdown, Look, Drain}
use Rattle.wf_machine.specs.declared.calling.Reply.TheVariants.{Accepted, Id, Json, Nothing}
use Rattle.wf_steps.specs.declared.calling.Entry.{Entry}
use Rattle.wf_steps.specs.declared.operation.Operation.{Operation}
use Rattle.wf_machine.specs.State.{Attempt, Flow, Kept, State, attempt_numbered, new_flow, with_attempt}
use Rattle.wf_machine.specs.Records.{is_kind_at, is_simple}
use Rattle.wf_machine.specs.Tasks.{handed_out, result_applied, takes_update}
use Rattle.wf_machine.specs.Queues.{Waiting, waiting_in, all_waiting, first_waiting}
use Rattle.wf_machine.specs.Documents.{task_document}
use Rattle.wf_machine.specs.Naming.{with_template}
use Rattle.wf_machine.specs.Registered.{task_def_named, flow_def_at, flow_def_for}
use Rattle.wf_machine.specs.Operators.{first_refusal, remove_refusals}
use Rattle.wf_machine.specs.Flows.{emptied, is_flow, is_other, removed, revised, is_concerned, new_kept, has_attempt, flow_numbered, flow_of_task}
use Rattle.wf_rules.specs.Sight.{is_open_there, is_open_in, is_child_of, child_state, Scene, scene_in}
use Rattle.wf_rules.specs.Rules.{choose}
use Rattle.wf_rules.specs.Plans.{turn_at}
use Rattle.wf_steps.specs.Calls.{Stepped, stepped, call_made, put_task_defs, update_task_def, drop_task_def, get_task_def, register, put_flow_defs, drop_flow_def, get_flow_def, get_running, runs_as, id_of, start, start_of, start_with, started, refused, is_full, is_too_long, decided, with_decided, is_settled, settle, needs, decide_flow, sweep, get_flow, get_task, task_read, poll, hand_over, update, update_of, is_wanted, flow_updated, task_updated, settled_with, or_refused, of_flow, operation_refusals, operation_reply, operated, next_after, stops_flow, with_undecided, with_operated, flow_operated, operate, is_parent_kept, flow_removed, remove, step}
use Rattle.wf_steps.specs.History.{unplaced, stored}

-- what is stored of what a step leaves
abbrev pub stored_step : Stepped → Stepped
stored_step x = stepped (stored x.state) x.reply

stored-if : (b c : Bool) (x y x' y' : Stepped) → b ≡ c → stored_step x ≡ x' → stored_step y ≡ y' → stored_step (if b then x else y) ≡ (if c then x' else y')
stored-if b c x y x' y' same p q = ap (λ v. stored_step (if v then x else y)) same ∙ by_case c
  where
    by_case : (d : Bool) → stored_step (if d then x else y) ≡ (if d then x' else y')
    by_case true = p
    by_case false = q

stored-found : {T U : Type 0} (g : T → U) (o : Option T) (f : T → Stepped) (f' : U → Stepped) (x x' : Stepped) → ((v : T) → stored_step (f v) ≡ f' (g v))
    → stored_step x ≡ x' → stored_step (option_map_or f o x) ≡ option_map_or f' (option_map g o) x'
stored-found g None f f' x x' p q = q
stored-found g (Some v) f f' x x' p q = p v

-- ---- flows without their revisions

find-through : {T : Type 0} (f : T → T) (p : T → Bool) (xs : List T) → ((x : T) → p (f x) ≡ p x) → find p (map f xs) ≡ option_map f (find p xs)
find-through f p [] same = refl
find-through f p (x ∷ xs) same = rw (same x) (by_test (p x) (find-through f p xs same)) where
  by_test : (b : Bool) → find p (map f xs) ≡ option_map f (find p xs) → (if b then Some (f x) else find p (map f xs)) ≡ option_map f (if b then Some x else find p xs)
  by_test true h = refl
  by_test false h = h

waiting-stored : (name : List ℕ) (e : ℕ) (flows : List Kept) → all_waiting name e (map unplaced flows) ≡ all_waiting name e flows
waiting-stored name e [] = refl
waiting-stored name e (k ∷ ks) = ap (λ ws. waiting_in name e k.flow ++ ws) (waiting-stored name e ks)

find-between : {T : Type 0} (f : T → T) (p q : T → Bool) (xs : List T) → ((x : T) → p (f x) ≡ q x) → find p (map f xs) ≡ option_map f (find q xs)
find-between f p q [] same = refl
find-between f p q (x ∷ xs) same = rw (same x) (by_test (q x) (find-between f p q xs same)) where
  by_test : (b : Bool) → find p (map f xs) ≡ option_map f (find q xs) → (if b then Some (f x) else find p (map f xs)) ≡ option_map f (if b then Some x else find q xs)
  by_test true h = refl
  by_test false h = h

-- ---- what stands beside a flow

open_in-stored : (s : State) (parent : FlowNo × TaskNo) → is_open_in (stored s) parent ≡ is_open_in s parent
open_in-stored s parent = rw (find-through unplaced (is_flow parent.0) s.flows (λ k. refl)) (by_found (find (is_flow parent.0) s.flows)) where
  by_found : (o : Option Kept) → option_map_or (is_open_there parent.1) (option_map unplaced o) false ≡ option_map_or (is_open_there parent.1) o false
  by_found None = refl
  by_found (Some k) = refl

orphan-stored : (s : State) (parent : Option (FlowNo × TaskNo)) → option_map_or (λ p. not (is_open_in (stored s) p)) parent false ≡ option_map_or (λ p. not (is_open_in s p)) parent false
orphan-stored s None = refl
orphan-stored s (Some parent) = ap not (open_in-stored s parent)

children-stored : (number : FlowNo) (flows : List Kept) → map child_state (filter (is_child_of number) (map unplaced flows)) ≡ map child_state (filter (is_child_of number) flows)
children-stored number [] = refl
children-stored number (k ∷ ks) = by_test (is_child_of number k) (children-stored number ks) where
  by_test : (b : Bool) → map child_state (filter (is_child_of number) (map unplaced ks)) ≡ map child_state (filter (is_child_of number) ks)
      → map child_state (if b then unplaced k ∷ filter (is_child_of number) (map unplaced ks) else filter (is_child_of number) (map unplaced ks))
      ≡ map child_state (if b then k ∷ filter (is_child_of number) ks else filter (is_child_of number) ks)
  by_test true h = ap (λ cs. child_state k ∷ cs) h
  by_test false h = h

scene-stored : (s : State) (f : Flow) → scene_in (stored s) f ≡ scene_in s f
scene-stored s f = rw (orphan-stored s f.parent, children-stored f.number s.flows) refl

decided-stored : (limits : Limits) (e : ℕ) (f : Flow) (s : State) → decided limits e f (stored s) ≡ decided limits e f s
decided-stored limits e f s = rw (scene-stored s f, length-map s.flows unplaced) refl

settled-stored : (limits : Limits) (e : ℕ) (s : State) (f : Flow) → is_settled limits e (stored s) f ≡ is_settled limits e s f
settled-stored limits e s f =
    let test : Scene → ℕ → Bool = λ scene kept. not (is_some (choose limits scene kept e (turn_at f (record { flow = s.next_flow; task = s.next_task })))) in
    ap (λ scene. test scene (length (map unplaced s.flows))) (scene-stored s f) ∙ ap (test (scene_in s f)) (length-map s.flows unplaced)

-- ---- what a decision leaves

revised-stored : (place : ℕ) (before now : Flow) (k : Kept) → unplaced (revised place before now k) ≡ revised 0 before now (unplaced k)
revised-stored place before now k = by_tests (is_flow now.number k) (is_concerned before now k.flow) where
  by_tests : (b c : Bool)
      → unplaced (if b then record { flow = now; revision = place } else if c then record k { revision = place } else k)
      ≡ (if b then record { flow = now; revision = 0 } else if c then record (unplaced k) { revision = 0 } else unplaced k)
  by_tests true c = refl
  by_tests false true = refl
  by_tests false false = refl

all_revised-stored : (place : ℕ) (before now : Flow) (flows : List Kept) → map unplaced (map (revised place before now) flows) ≡ map (revised 0 before now) (map unplaced flows)
all_revised-stored place before now [] = refl
all_revised-stored place before now (k ∷ ks) = rw (revised-stored place before now k, all_revised-stored place before now ks) refl

new-stored : (place : ℕ) (flows : List Flow) → map unplaced (map (new_kept place) flows) ≡ map (new_kept 0) flows
new-stored place [] = refl
new-stored place (f ∷ fs) = rw (new-stored place fs) refl

with_decided-stored : (limits : Limits) (place e : ℕ) (before now : Flow) (s : State)
    → stored (with_decided limits place e before now s) ≡ with_decided limits 0 e before now (stored s)
with_decided-stored limits place e before now s =
    let turn = decided limits e now s in
    let split = map-append unplaced (map (revised place before turn.flow) s.flows) (map (new_kept place) turn.children) in
    rw (decided-stored limits e now s, split, all_revised-stored place before turn.flow s.flows, new-stored place turn.children) refl

settle-stored : (limits : Limits) (place e : ℕ) (f : Flow) (s : State) → stored (settle limits place e f s) ≡ settle limits 0 e f (stored s)
settle-stored limits place e f s = rw (settled-stored limits e s f, ← with_decided-stored limits place e f f s) (by_test (is_settled limits e s f)) where
  by_test : (b : Bool) → stored (if b then s else with_decided limits place e f f s) ≡ (if b then stored s else stored (with_decided limits place e f f s))
  by_test true = refl
  by_test false = refl

needs-stored : (limits : Limits) (e : ℕ) (s : State) → needs limits e (stored s) ≡ option_map unplaced (needs limits e s)
unfolding needs
needs-stored limits e s =
    find-between unplaced (λ k. not (is_settled limits e (stored s) k.flow)) (λ k. not (is_settled limits e s k.flow)) s.flows
    (λ k. ap not (settled-stored limits e s k.flow))

-- ---- calls

put-stored : (place e : ℕ) (defs : List TaskDef) (s : State) → stored_step (put_task_defs place e defs s) ≡ put_task_defs 0 e defs (stored s)
put-stored place e [] s = refl
put-stored place e (c ∷ cs) s = refl

full-stored : (limits : Limits) (s : State) → is_full limits s ≡ is_full limits (stored s)
full-stored limits s = rw length-map refl

started-stored : (limits : Limits) (place e : ℕ) (def : FlowDef) (input : Doc) (correlation : List ℕ) (s : State)
    → stored_step (started limits place e def input correlation s) ≡ started limits 0 e def input correlation (stored s)
started-stored limits place e def input correlation s =
    let flow = new_flow (record { 0 = s.next_flow }) def input correlation None 0 e in
    let there : State = record s { next_flow = s.next_flow + 1; flows = s.flows ++ new_kept place flow ∷ [] } in
    let split : map unplaced (s.flows ++ new_kept place flow ∷ []) ≡ map unplaced s.flows ++ new_kept 0 flow ∷ [] = map-append unplaced s.flows (new_kept place flow ∷ []) in
    rw (with_decided-stored limits place e flow flow there, split) refl

start_with-stored : (limits : Limits) (place e : ℕ) (def : FlowDef) (input : Doc) (correlation : List ℕ) (s : State)
    → stored_step (start_with limits place e def input correlation s) ≡ start_with limits 0 e def input correlation (stored s)
start_with-stored limits place e def input correlation s =
    let long = is_too_long limits input in
    stored-if (is_full limits s) (is_full limits (stored s)) (refused StoreFull s) (if long then refused DocumentLimit s else started limits place e def input correlation s)
    (refused StoreFull (stored s)) (if long then refused DocumentLimit (stored s) else started limits 0 e def input correlation (stored s))
    (full-stored limits s) refl
    (stored-if long long (refused DocumentLimit s) (started limits place e def input correlation s) (refused DocumentLimit (stored s))
    (started limits 0 e def input correlation (stored s)) refl refl (started-stored limits place e def input correlation s))

start_of-stored : (limits : Limits) (place e : ℕ) (o : Option FlowDef) (input : Doc) (correlation : List ℕ) (s : State)
    → stored_step (start_of limits place e o input correlation s) ≡ start_of limits 0 e o input correlation (stored s)
start_of-stored limits place e None input correlation s = refl
start_of-stored limits place e (Some def) input correlation s = start_with-stored limits place e def (with_template def.template input) correlation s

task_def-stored : (o : Option TaskDef) (s : State)
    → stored_step (option_map_or (λ (d : TaskDef). stepped s (Json d.document)) o (refused NotFound s))
    ≡ option_map_or (λ (d : TaskDef). stepped (stored s) (Json d.document)) o (refused NotFound (stored s))
task_def-stored None s = refl
task_def-stored (Some d) s = refl

flow_def-stored : (o : Option FlowDef) (s : State)
    → stored_step (option_map_or (λ (d : FlowDef). stepped s (Json d.document)) o (refused NotFound s))
    ≡ option_map_or (λ (d : FlowDef). stepped (stored s) (Json d.document)) o (refused NotFound (stored s))
flow_def-stored None s = refl
flow_def-stored (Some d) s = refl

put_flows-stored : (place e : ℕ) (defs : List FlowDef) (s : State) → stored_step (put_flow_defs place e defs s) ≡ put_flow_defs 0 e defs (stored s)
put_flows-stored place e [] s = refl
put_flows-stored place e (c ∷ cs) s = refl

running-stored : (mark : ℕ) (name : List ℕ) (version : Option ℕ) (flows : List Kept)
    → map (id_of mark) (filter (runs_as name version) (map unplaced flows)) ≡ map (id_of mark) (filter (runs_as name version) flows)
running-stored mark name version [] = refl
running-stored mark name version (k ∷ ks) = by_test (runs_as name version k) (running-stored mark name version ks) where
  by_test : (b : Bool)
      → map (id_of mark) (filter (runs_as name version) (map unplaced ks)) ≡ map (id_of mark) (filter (runs_as name version) ks)
      → map (id_of mark) (if b then unplaced k ∷ filter (runs_as name version) (map unplaced ks) else filter (runs_as name version) (map unplaced ks))
      ≡ map (id_of mark) (if b then k ∷ filter (runs_as name version) ks else filter (runs_as name version) ks)
  by_test true h = ap (λ ids. id_of mark k ∷ ids) h
  by_test false h = h

get_running-stored : (name : List ℕ) (version : Option ℕ) (s : State) → stored_step (get_running name version s) ≡ get_running name version (stored s)
unfolding get_running
get_running-stored name version s = ap (λ ids. stepped (stored s) (Json (Listed ids))) (sym (running-stored s.mark name version s.flows))

flow_read-stored : (number : FlowNo) (tasks : Bool) (s : State) → stored_step (get_flow number tasks s) ≡ get_flow number tasks (stored s)
unfolding get_flow
flow_read-stored number tasks s =
    rw (find-through unplaced (is_flow number) s.flows (λ k. refl))
    (stored-found unplaced (flow_numbered number s.flows) _ _ (refused NotFound s) (refused NotFound (stored s)) (λ k. refl) refl)

task-stored : (task : TaskNo) (s : State) (f : Flow) → stored_step (task_read task s f) ≡ task_read task (stored s) f
task-stored task s f = by_found (attempt_numbered task f.attempts) where
  by_found : (o : Option Attempt)
      → stored_step (option_map_or (λ a. stepped s (Json (task_document s.mark f a))) o (refused NotFound s))
      ≡ option_map_or (λ a. stepped (stored s) (Json (task_document s.mark f a))) o (refused NotFound (stored s))
  by_found None = refl
  by_found (Some a) = refl

task_read-stored : (task : TaskNo) (s : State) → stored_step (get_task task s) ≡ get_task task (stored s)
unfolding get_task
task_read-stored task s =
    rw (find-through unplaced (has_attempt task) s.flows (λ k. refl))
    (stored-found unplaced (flow_of_task task s.flows) _ _ (refused NotFound s) (refused NotFound (stored s)) (λ (k : Kept). task-stored task s k.flow) refl)

poll-stored : (place e : ℕ) (name worker : List ℕ) (s : State) → stored_step (poll place e name worker s) ≡ poll 0 e name worker (stored s)
unfolding poll
poll-stored place e name worker s = rw (waiting-stored name e s.flows) (by_found (first_waiting (all_waiting name e s.flows))) where
  by_found : (o : Option Waiting)
      → stored_step (option_map_or (λ w. hand_over place e name worker w s) o (stepped s Nothing))
      ≡ option_map_or (λ w. hand_over 0 e name worker w (stored s)) o (stepped (stored s) Nothing)
  by_found None = refl
  by_found (Some w) = rw (all_revised-stored place w.flow (record w.flow { attempts = with_attempt (handed_out e worker w.attempt) w.flow.attempts }) s.flows) refl

settled_with-stored : (limits : Limits) (place e : ℕ) (outcome : TaskResult) (f : Flow) (a : Attempt) (s : State)
    → stored_step (settled_with limits place e outcome f a s) ≡ settled_with limits 0 e outcome f a (stored s)
settled_with-stored limits place e outcome f a s =
    let now = record f { attempts = with_attempt (result_applied e (is_kind_at is_simple f.def a.node) outcome a) f.attempts } in
    ap (λ t. stepped t (Id kind.Task a.number.0)) (with_decided-stored limits place e f now s)

task_updated-stored : (limits : Limits) (place e : ℕ) (outcome : TaskResult) (f : Flow) (a : Attempt) (s : State)
    → stored_step (task_updated limits place e outcome f a s) ≡ task_updated limits 0 e outcome f a (stored s)
task_updated-stored limits place e outcome f a s =
    let over = not (task_is_open a.status) in
    let fixed = not (is_kind_at takes_update f.def a.node) in
    stored-if over over _ _ _ _ refl refl
    (stored-if fixed fixed (refused NotUpdatable s) (settled_with limits place e outcome f a s) (refused NotUpdatable (stored s))
    (settled_with limits 0 e outcome f a (stored s)) refl refl (settled_with-stored limits place e outcome f a s))

flow_updated-stored : (limits : Limits) (place e : ℕ) (task : TaskNo) (outcome : TaskResult) (f : Flow) (s : State)
    → stored_step (flow_updated limits place e task outcome f s) ≡ flow_updated limits 0 e task outcome f (stored s)
flow_updated-stored limits place e task outcome f s = by_found (attempt_numbered task f.attempts) where
  by_found : (o : Option Attempt)
      → stored_step (option_map_or (λ a. task_updated limits place e outcome f a s) o (refused NotFound s))
      ≡ option_map_or (λ a. task_updated limits 0 e outcome f a (stored s)) o (refused NotFound (stored s))
  by_found None = refl
  by_found (Some a) = task_updated-stored limits place e outcome f a s

update_of-stored : (limits : Limits) (place e : ℕ) (wanted : Option FlowNo) (task : TaskNo) (outcome : TaskResult) (k : Option Kept) (s : State)
    → stored_step (update_of limits place e wanted task outcome k s) ≡ update_of limits 0 e wanted task outcome (option_map unplaced k) (stored s)
update_of-stored limits place e wanted task outcome None s = refl
update_of-stored limits place e wanted task outcome (Some k) s =
    let own = is_wanted wanted k.flow.number in
    stored-if own own (flow_updated limits place e task outcome k.flow s) (refused NotFound s) (flow_updated limits 0 e task outcome k.flow (stored s))
    (refused NotFound (stored s)) refl (flow_updated-stored limits place e task outcome k.flow s) refl

update-stored : (limits : Limits) (place e : ℕ) (wanted : Option FlowNo) (task : TaskNo) (outcome : TaskResult) (s : State)
    → stored_step (update limits place e wanted task outcome s) ≡ update limits 0 e wanted task outcome (stored s)
unfolding update
update-stored limits place e wanted task outcome s =
    rw (find-through unplaced (has_attempt task) s.flows (λ k. refl)) (update_of-stored limits place e wanted task outcome (flow_of_task task s.flows) s)

-- ---- what operators do

or_refused-stored : (o : Option Refusal) (made made' : Stepped) (s : State) → stored_step made ≡ made' → stored_step (or_refused o made s) ≡ or_refused o made' (stored s)
or_refused-stored None made made' s h = h
or_refused-stored (Some refusal) made made' s h = refl

of_flow-stored : (number : FlowNo) (made made' : Flow → Stepped) (s : State) → ((f : Flow) → stored_step (made f) ≡ made' f)
    → stored_step (of_flow number made s) ≡ of_flow number made' (stored s)
of_flow-stored number made made' s h =
    rw (find-through unplaced (is_flow number) s.flows (λ k. refl))
    (stored-found unplaced (flow_numbered number s.flows) (λ (k : Kept). made k.flow) (λ (k : Kept). made' k.flow) (refused NotFound s) (refused NotFound (stored s))
    (λ k. h k.flow) refl)

undecided-stored : (place e : ℕ) (before now : Flow) (s : State) → stored (with_undecided place e before now s) ≡ with_undecided 0 e before now (stored s)
undecided-stored place e before now s = rw (all_revised-stored place before now s.flows) refl

operated-stored : (limits : Limits) (place e : ℕ) (operation : Operation) (f : Flow) (s : State)
    → stored (with_operated limits place e operation f s) ≡ with_operated limits 0 e operation f (stored s)
operated-stored limits place e operation f s = by_test (stops_flow operation) where
  now : Flow
  now = operated e s.next_task operation f

  there : State
  there = record s { next_task = next_after operation s.next_task }

  by_test : (b : Bool)
      → stored (if b then with_undecided place e f now s else with_decided limits place e f now there)
      ≡ (if b then with_undecided 0 e f now (stored s) else with_decided limits 0 e f now (stored there))
  by_test true = undecided-stored place e f now s
  by_test false = with_decided-stored limits place e f now there

flow_operated-stored : (limits : Limits) (place e : ℕ) (operation : Operation) (s : State) (f : Flow)
    → stored_step (flow_operated limits place e operation s f) ≡ flow_operated limits 0 e operation (stored s) f
flow_operated-stored limits place e operation s f =
    let reply = operation_reply operation f.number in
    or_refused-stored (first_refusal (operation_refusals limits s.next_task operation f)) (stepped (with_operated limits place e operation f s) reply)
    (stepped (with_operated limits 0 e operation f (stored s)) reply) s
    (ap (λ t. stepped t reply) (operated-stored limits place e operation f s))

operate-stored : (limits : Limits) (place e : ℕ) (number : FlowNo) (operation : Operation) (s : State)
    → stored_step (operate limits place e number operation s) ≡ operate limits 0 e number operation (stored s)
unfolding operate
operate-stored limits place e number operation s =
    of_flow-stored number (flow_operated limits place e operation s) (flow_operated limits 0 e operation (stored s)) s
    (flow_operated-stored limits place e operation s)

parent_kept-stored : (s : State) (f : Flow) → is_parent_kept (stored s) f ≡ is_parent_kept s f
parent_kept-stored s f = by_parent f.parent where
  by_found : (o : Option Kept) → is_some (option_map unplaced o) ≡ is_some o
  by_found None = refl
  by_found (Some k) = refl

  by_parent : (o : Option (FlowNo × TaskNo))
      → option_map_or (λ (parent : FlowNo × TaskNo). is_some (flow_numbered parent.0 (map unplaced s.flows))) o false
      ≡ option_map_or (λ (parent : FlowNo × TaskNo). is_some (flow_numbered parent.0 s.flows)) o false
  by_parent None = refl
  by_parent (Some parent) = rw (find-through unplaced (is_flow parent.0) s.flows (λ k. refl)) (by_found (flow_numbered parent.0 s.flows))

others-stored : (number : FlowNo) (flows : List Kept) → map unplaced (filter (is_other number) flows) ≡ filter (is_other number) (map unplaced flows)
others-stored number [] = refl
others-stored number (k ∷ ks) = by_test (is_other number k) (others-stored number ks) where
  by_test : (b : Bool) → map unplaced (filter (is_other number) ks) ≡ filter (is_other number) (map unplaced ks)
      → map unplaced (if b then k ∷ filter (is_other number) ks else filter (is_other number) ks)
      ≡ (if b then unplaced k ∷ filter (is_other number) (map unplaced ks) else filter (is_other number) (map unplaced ks))
  by_test true h = ap (λ rest. unplaced k ∷ rest) h
  by_test false h = h

removed-stored : (place : ℕ) (f : Flow) (flows : List Kept) → map unplaced (removed place f flows) ≡ removed 0 f (map unplaced flows)
removed-stored place f flows =
    rw (others-stored f.number (map (revised place f (emptied f)) flows), all_revised-stored place f (emptied f) flows) refl

flow_removed-stored : (place e : ℕ) (s : State) (f : Flow) → stored_step (flow_removed place e s f) ≡ flow_removed 0 e (stored s) f
flow_removed-stored place e s f =
    let made : ℕ → State → Stepped = λ p t. stepped (record t { last = e; flows = removed p f t.flows }) Accepted in
    or_refused-stored (first_refusal (remove_refusals (is_parent_kept s f) f)) (made place s) (made 0 (stored s)) s
    (ap (λ flows. stepped (record (stored s) { last = e; flows = flows }) Accepted) (removed-stored place f s.flows))
    ∙ ap (λ kept. or_refused (first_refusal (remove_refusals kept f)) (made 0 (stored s)) (stored s)) (sym (parent_kept-stored s f))

remove-stored : (place e : ℕ) (number : FlowNo) (s : State) → stored_step (remove place e number s) ≡ remove 0 e number (stored s)
unfolding remove
remove-stored place e number s = of_flow-stored number (flow_removed place e s) (flow_removed 0 e (stored s)) s (flow_removed-stored place e s)

-- ---- all calls

-- a call at any place leaves of the stored state what it leaves at none
call-stored : (limits : Limits) (place e : ℕ) (call : Call) (s : State) → stored_step (call_made limits place e call s) ≡ call_made limits 0 e call (stored s)
unfolding register start update_task_def drop_task_def get_task_def get_flow_def drop_flow_def decide_flow sweep
call-stored limits place e (PutTaskDefs defs) s = put-stored place e defs s
call-stored limits place e (UpdateTaskDef def) s =
    let found = is_some (task_def_named def.name s.task_defs) in
    stored-if found found _ _ _ _ refl refl refl
call-stored limits place e TaskDefs s = refl
call-stored limits place e (TaskDefNamed name) s = task_def-stored (task_def_named name s.task_defs) s
call-stored limits place e (DropTaskDef name) s =
    let found = is_some (task_def_named name s.task_defs) in
    stored-if found found _ _ _ _ refl refl refl
call-stored limits place e (AddFlowDef def) s =
    let found = is_some (flow_def_at def.name def.version s.flow_defs) in
    stored-if found found _ _ _ _ refl refl refl
call-stored limits place e (PutFlowDefs defs) s = put_flows-stored place e defs s
call-stored limits place e FlowDefs s = refl
call-stored limits place e (FlowDefNamed name version) s = flow_def-stored (flow_def_for name version s.flow_defs) s
call-stored limits place e (DropFlowDef name version) s =
    let found = is_some (flow_def_at name version s.flow_defs) in
    stored-if found found _ _ _ _ refl refl refl
call-stored limits place e (Start name version input correlation) s =
    start_of-stored limits place e (flow_def_for name version s.flow_defs) input correlation s
call-stored limits place e (GetFlow number tasks) s = flow_read-stored number tasks s
call-stored limits place e (Running name version) s = get_running-stored name version s
call-stored limits place e (Poll name worker) s = poll-stored place e name worker s
call-stored limits place e (GetTask task) s = task_read-stored task s
call-stored limits place e (Update wanted task outcome) s = update-stored limits place e wanted task outcome s
call-stored limits place e (Decide number) s =
    rw (find-through unplaced (is_flow number) s.flows (λ k. refl))
    (stored-found unplaced (flow_numbered number s.flows) _ (λ (k : Kept). stepped (settle limits 0 e k.flow (stored s)) Accepted) (refused NotFound s) (refused NotFound (stored s))
    (λ k. ap (λ t. stepped t Accepted) (settle-stored limits place e k.flow s)) refl)
call-stored limits place e Sweep s =
    rw (needs-stored limits e s)
    (stored-found unplaced (needs limits e s) _ (λ (k : Kept). stepped (settle limits 0 e k.flow (stored s)) (Id kind.Flow k.flow.number.0)) (stepped s Nothing) (stepped (stored s) Nothing)
    (λ k. ap (λ t. stepped t (Id kind.Flow k.flow.number.0)) (settle-stored limits place e k.flow s)) refl)
call-stored limits place e (Operate number operation) s = operate-stored limits place e number operation s
call-stored limits place e (Remove number) s = remove-stored place e number s
call-stored limits place e Shutdown s = refl
call-stored limits place e (Look number) s = refl
call-stored limits place e Drain s = refl

step-stored : (limits : Limits) (place : ℕ) (s : State) (entry : Entry) → stored_step (step limits place s entry) ≡ step limits 0 (stored s) entry
step-stored limits place s entry =
    stored-if entry.starved entry.starved _ (call_made limits place (max s.last entry.moment) entry.call s) _ _ refl refl (call-stored limits place (max s.last entry.moment) entry.call s)

-- from states that are stored alike, a step leaves states that are stored alike, and replies the same
pub places_apart : (limits : Limits) (p q : ℕ) (s t : State) (entry : Entry) → stored s ≡ stored t → stored_step (step limits p s entry) ≡ stored_step (step limits q t entry)
places_apart limits p q s t entry same =
    step-stored limits p s entry ∙ ap (λ x. step limits 0 x entry) same ∙ sym (step-stored limits q t entry)
