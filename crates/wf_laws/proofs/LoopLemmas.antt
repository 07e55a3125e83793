-- Each flow that starts runs a registered definition, so the loops of all kept flows fit where those of all registered ones do.
use Rattle.std.proofs.Common.{ℕ, zero, suc, ◌+◌, max, Bool, true, false, if◌then◌else◌, ◌&&◌, ◌||◌, not, nat_le, is_some, All, List, [], ◌∷◌, ◌++◌, map, length, Option, None, Some, codes, sym, subst, pos}
use Rattle.std.proofs.lemmas.List.Elements.{All-append, All-cons, All-filter, All-head, All-map, All-nil, All-tail}
use Rattle.std.specs.Prelude.{option_map, option_and_then}
use Rattle.std.specs.List.{find, list_any}
use Rattle.std.specs.Option.{option_map_or}
use Rattle.std.specs.Ordering.{match_ordering}
use Rattle.std.specs.declared.cmp.Ordering.{Ordering}
use Rattle.std.specs.declared.cmp.Ordering.TheVariants.{Less, Equal, Greater}
use Rattle.wf_doc.specs.declared.doc.Doc.{Doc}
use Rattle.wf_doc.specs.declared.doc.Doc.TheOpen.{Doc-F}
use Rattle.wf_doc.specs.declared.doc.Doc.TheViews.{out-Doc}
use Rattle.wf_doc.specs.Doc.{field}
use Rattle.wf_names.specs.TaskStatus.{task_is_open}
use Rattle.wf_names.specs.declared.ids.FlowNo.{FlowNo}
use Rattle.wf_names.specs.declared.ids.TaskNo.{TaskNo}
use Rattle.wf_names.specs.declared.refusals.Refusal.{Refusal}
use Rattle.wf_names.specs.declared.refusals.Refusal.TheVariants.{NotFound, DocumentLimit}
use Rattle.wf_names.specs.declared.statuses.FlowStatus.{FlowStatus}
use Rattle.wf_names.specs.declared.statuses.FlowStatus.TheVariants as flow
use Rattle.wf_wire.specs.declared.limits.Limits.{Limits}
use Rattle.wf_steps.specs.declared.calling.Call.{Call}
use Rattle.wf_steps.specs.declared.calling.Call.TheVariants.{PutTaskDefs, UpdateTaskDef, TaskDefs, TaskDefNamed, DropTaskDef, AddFlowDef, PutFlowDefs, FlowDefs, FlowDefNamed, DropFlowDef, Start, GetFlow, Running, Poll as PollFor, GetTask, Update, Decide, Sweep, Operate, Remove, Shutdown, Look, Drain}
use Rattle.wf_steps.specs.declared.calling.Entry.{Entry}
use Rattle.wf_steps.specs.declared.operation.Operation.{Operation}
use Rattle.wf_machine.specs.declared.calling.Reply.{Reply}
use Rattle.wf_machine.specs.declared.calling.TaskResult.{TaskResult}
use Rattle.wf_machine.specs.declared.definition.Cases.{Cases'}
use Rattle.wf_machine.specs.declared.definition.Count.{Count}
use Rattle.wf_machine.specs.declared.definition.FlowDef.{FlowDef}
use Rattle.wf_machine.specs.declared.definition.Node.{Node}
use Rattle.wf_machine.specs.declared.definition.NodeKind.{NodeKind, Simple, Switch, Fork', Join, Loop', SubFlow, SetVariable, Wait, Human, Terminate}
use Rattle.wf_machine.specs.declared.definition.TaskDef.{TaskDef}
use Rattle.wf_machine.specs.declared.sight.ChildState.{ChildState}
use Rattle.wf_machine.specs.declared.timed.Cause.{Cause}
use Rattle.wf_machine.specs.declared.timed.Cause.TheVariants.{Poll, Response, Total, Wait as WaitDue}
use Rattle.wf_machine.specs.declared.timed.TaskPolicy.{TaskPolicy}
use Rattle.wf_machine.specs.declared.timed.TaskPolicy.TheVariants.{Retry, TimeOutWf, AlertOnly}
use Rattle.wf_machine.specs.declared.timed.Timing.{Timing}
use Rattle.wf_machine.specs.declared.walking.Next.{Next}
use Rattle.wf_machine.specs.declared.walking.Next.TheVariants.{Schedule, Join as Joins, Turn as Turns, Waits, Done}
use Rattle.wf_machine.specs.Flows.{emptied, flow_numbered, flow_of_task, has_attempt, is_concerned, is_flow, is_other, new_kept, removed, revised}
use Rattle.wf_machine.specs.Marks.{next_step, node_at}
use Rattle.wf_machine.specs.Naming.{with_template}
use Rattle.wf_machine.specs.Operators.{first_refusal, remove_refusals}
use Rattle.wf_machine.specs.Queues.{next_waiting}
use Rattle.wf_machine.specs.Records.{Each, Held, is_kind_at}
use Rattle.wf_machine.specs.Registered.{definition_order, flow_def_at, flow_def_for, greater_version, is_named, is_version, newest_flow_def, task_def_named, with_flow_def, with_flow_defs, without_flow_def}
use Rattle.wf_machine.specs.Sight.{Seen}
use Rattle.wf_machine.specs.State.{Attempt, Flow, Kept, State, attempt_numbered, empty_table, new_flow}
use Rattle.wf_machine.specs.Tasks.{takes_update}
use Rattle.wf_rules.specs.declared.acting.Act.{Act}
use Rattle.wf_rules.specs.declared.acting.Act.TheVariants.{Add, Close, Note, Forgive, Turn as TurnOn, Variables, NoteFlow, End}
use Rattle.wf_rules.specs.declared.acting.Alert.{Alert}
use Rattle.wf_rules.specs.declared.acting.Alert.TheVariants.{Poll as PollAlert, Total as TotalAlert}
use Rattle.wf_rules.specs.declared.acting.Begin.TheVariants.{Held as Holds, Over}
use Rattle.wf_rules.specs.declared.acting.Child.{Child}
use Rattle.wf_rules.specs.declared.acting.Child.TheVariants.{Nothing, Flow as NewFlow, TooLarge, Refused}
use Rattle.wf_rules.specs.declared.acting.NewAttempt.{NewAttempt}
use Rattle.wf_rules.specs.declared.acting.Outcome.TheVariants.{Completed}
use Rattle.wf_rules.specs.Acts.{Turn, make, made, started as children_started}
use Rattle.wf_rules.specs.Loops.{LoopsFit}
use Rattle.wf_rules.specs.Outputs.{child_output, count_of, entries_of, filled_in, is_too_large, join_output, turned_output, turns_on, with_all, with_key}
use Rattle.wf_rules.specs.Plans.{turn_at}
use Rattle.wf_rules.specs.Rules.{Room, after, all_done, allowed, by_policy, child_ended, child_outcome, choose, decide, first_due, first_lost, first_of, first_some, fitted, fitted_child, flow_output, is_add, is_optional, is_running, joined, last_place, lost, parent_ended, past_due, pick, policy_of, ran_too_long, retried_by, retry_of, room, rule, rules, rules_at_most, store_full, take_step, timing_at, turn_at_place, turn_of_loop, turned_on, unretried}
use Rattle.wf_rules.specs.Scheduling.{adding_one, attempt_at, child_at, counted_at, end_by, failed_at, fails, loop_at, named_end, refused_at, schedule, schedule_kind, schedule_task, sub_flow_at, wait_at, wait_here, within}
use Rattle.wf_rules.specs.Sight.{Scene, Sight, scene_in, sight}
use Rattle.wf_rules.proofs.EndLemmas.{made_def}
use Rattle.wf_steps.specs.Calls.{Stepped, call_made, decide_flow, decided, drop_flow_def, drop_task_def, get_flow, get_flow_def, get_running, get_task, get_task_def, is_full, is_parent_kept, is_settled, is_too_long, is_wanted, needs, next_after, operate, operated, operation_refusals, or_refused, poll, put_flow_defs, put_task_defs, refused, register, remove, settle, settled_with, start, start_of, started, step, stepped, stops_flow, sweep, task_updated, update, update_of, update_task_def, with_decided, with_operated, with_undecided}
use Rattle.wf_laws.specs.Sound.{BringsFitLoops, HasFitLoops}
use Rattle.wf_laws.proofs.HandLemmas.{IsWaiting, next_waits}
use Rattle.wf_laws.proofs.OperatorLemmas.{operated_stays}
use Rattle.wf_laws.proofs.SoundLemmas.{all_stands}

abbrev HasFit : FlowDef → Type 0
HasFit d = LoopsFit d.nodes

abbrev RunsFit : Flow → Type 0
RunsFit f = HasFit f.def

abbrev KeepsFit : Kept → Type 0
KeepsFit k = RunsFit k.flow

-- ---- values that may be there

held_if : {T : Type 0} (P : T → Type 0) (b : Bool) (x y : Option T) → Held P x → Held P y → Held P (if b then x else y)
held_if P true x y p q = p
held_if P false x y p q = q

held_map : {S T : Type 0} (P : T → Type 0) (f : S → T) (o : Option S) → ((x : S) → P (f x)) → Held P (option_map f o)
held_map P f None h = tt
held_map P f (Some x) h = h x

held_then : {S T : Type 0} (P : T → Type 0) (f : S → Option T) (o : Option S) → ((x : S) → Held P (f x)) → Held P (option_and_then f o)
held_then P f None h = tt
held_then P f (Some x) h = h x

-- ---- registered definitions

held_find : {T : Type 0} (P : T → Type 0) (p : T → Bool) (xs : List T) → All P xs → Held P (find p xs)
held_find P p [] each = tt
held_find P p (x ∷ xs) each = held_if P (p x) (Some x) (find p xs) (All-head P x xs each) (held_find P p xs (All-tail P x xs each))

held_newest : (name : List ℕ) (ds : List FlowDef) → All HasFit ds → Held HasFit (newest_flow_def name ds)
held_newest name [] each = tt
held_newest name (d ∷ ds) each =
    by_version (if is_named name d then Some d else None) (newest_flow_def name ds) (held_if HasFit (is_named name d) (Some d) None (All-head HasFit d ds each) tt)
    (held_newest name ds (All-tail HasFit d ds each))
  where
    by_version : (x y : Option FlowDef) → Held HasFit x → Held HasFit y → Held HasFit (greater_version x y)
    by_version None y p q = q
    by_version (Some c) None p q = p
    by_version (Some c) (Some e) p q = held_if HasFit (nat_le e.version c.version) (Some c) (Some e) p q

held_for : (name : List ℕ) (version : Option ℕ) (ds : List FlowDef) → All HasFit ds → Held HasFit (flow_def_for name version ds)
held_for name None ds each = held_newest name ds each
held_for name (Some version) ds each = held_find HasFit (is_version name version) ds each

fit_with : (c : FlowDef) (ds : List FlowDef) → HasFit c → All HasFit ds → All HasFit (with_flow_def c ds)
fit_with c [] fit each = All-cons HasFit c [] fit each
fit_with c (d ∷ ds) fit each =
    let more = All-tail HasFit d ds each in
    by_order (definition_order c d) (All-cons HasFit c (d ∷ ds) fit each) (All-cons HasFit c ds fit more)
    (All-cons HasFit d (with_flow_def c ds) (All-head HasFit d ds each) (fit_with c ds fit more))
  where
    by_order : (o : Ordering) → All HasFit (c ∷ d ∷ ds) → All HasFit (c ∷ ds) → All HasFit (d ∷ with_flow_def c ds)
        → All HasFit (match_ordering o (c ∷ d ∷ ds) (c ∷ ds) (d ∷ with_flow_def c ds))
    by_order Less p q r = p
    by_order Equal p q r = q
    by_order Greater p q r = r

fit_with_all : (cs ds : List FlowDef) → All HasFit cs → All HasFit ds → All HasFit (with_flow_defs cs ds)
fit_with_all [] ds new each = each
fit_with_all (c ∷ cs) ds new each = fit_with_all cs (with_flow_def c ds) (All-tail HasFit c cs new) (fit_with c ds (All-head HasFit c cs new) each)

fit_without : (name : List ℕ) (version : ℕ) (ds : List FlowDef) → All HasFit ds → All HasFit (without_flow_def name version ds)
fit_without name version [] each = each
fit_without name version (d ∷ ds) each =
    let more = All-tail HasFit d ds each in
    by_test (is_version name version d) more (All-cons HasFit d (without_flow_def name version ds) (All-head HasFit d ds each) (fit_without name version ds more))
  where
    by_test : (b : Bool) → All HasFit ds → All HasFit (d ∷ without_flow_def name version ds) → All HasFit (if b then ds else d ∷ without_flow_def name version ds)
    by_test true p q = p
    by_test false p q = q

-- ---- acts

-- a flow that is started has fit loops
abbrev Brings : Child → Type 0
Brings (NewFlow def input) = HasFit def
Brings child = Unit {0}

abbrev Starts : Act → Type 0
Starts (Add n) = Brings n.child
Starts act = Unit {0}

abbrev AllStart : List Act → Type 0
AllStart acts = Each Starts acts

start_if : (b : Bool) (xs ys : List Act) → AllStart xs → AllStart ys → AllStart (if b then xs else ys)
start_if true xs ys p q = p
start_if false xs ys p q = q

start_within : (limits : Limits) (docs : List Doc) (acts : List Act) → AllStart acts → AllStart (within limits docs acts)
start_within limits docs acts h = start_if (list_any (is_too_large limits) docs) (fails (codes "document limit") (Some empty_table)) acts (tt, tt) h

-- an act by itself
start_alone : (limits : Limits) (docs : List Doc) (act : Act) → Starts act → AllStart (within limits docs (act ∷ []))
start_alone limits docs act h = start_within limits docs (act ∷ []) (h, tt)

start_limit : (limits : Limits) (s : Sight) (docs : List Doc) (acts : List Act) → AllStart acts
    → AllStart (if nat_le limits.attempts (length s.attempts) then fails (codes "attempt limit") None else within limits docs acts)
start_limit limits s docs acts h =
    start_if (nat_le limits.attempts (length s.attempts)) (fails (codes "attempt limit") None) (within limits docs acts) (tt, tt) (start_within limits docs acts h)

start_one : (limits : Limits) (s : Sight) (n : NewAttempt) → Brings n.child → AllStart (adding_one limits s n)
start_one limits s n h = start_limit limits s (n.input ∷ n.output ∷ []) (Add n ∷ []) (h, tt)

-- ---- r1, r2, r4

start_too_long : (alert : Bool) → AllStart (ran_too_long alert)
start_too_long true = (tt, tt)
start_too_long false = (tt, tt)

start_policy : (p : ℕ) (alert : Alert) (r : List ℕ) (policy : TaskPolicy) → AllStart (by_policy p alert r policy)
start_policy p alert r Retry = (tt, tt)
start_policy p alert r TimeOutWf = (tt, (tt, tt))
start_policy p alert r AlertOnly = (tt, tt)

start_past_due : (s : Sight) (p : ℕ) (c : Cause) → AllStart (past_due s p c)
start_past_due s p Poll = start_policy p PollAlert (codes "poll timeout") (policy_of (timing_at p s.attempts))
start_past_due s p Response = (tt, tt)
start_past_due s p Total = start_policy p TotalAlert (codes "total timeout") (policy_of (timing_at p s.attempts))
start_past_due s p WaitDue = (tt, tt)

start_lost : (limits : Limits) (s : Sight) (p : ℕ) (a : Seen) → AllStart (lost limits s p a)
start_lost limits s p a = by_timing (retried_by s a) where
  by_timing : (o : Option Timing) → AllStart (option_map_or (λ timing. adding_one limits s (retry_of p a timing)) o (unretried s p a))
  by_timing None = start_if (is_optional s a.node) (Forgive p ∷ []) _ (tt, tt) (tt, tt)
  by_timing (Some timing) = start_one limits s (retry_of p a timing) tt

-- ---- r5

brings_or : {T : Type 0} (f : T → NewAttempt) (o : Option T) (n : NewAttempt) → ((x : T) → Brings (f x).child) → Brings n.child → Brings (option_map_or f o n).child
brings_or f None n h k = k
brings_or f (Some x) n h k = h x

brings_counted : (node : Node) (i : ℕ) (count : Count) (input : Doc) → Brings (counted_at node i count input).child
brings_counted node i count input = brings_or (λ n. loop_at node i input) (count_of count input) (failed_at node i (codes "bad loop count") input) (λ n. tt) tt

brings_wait_here : (node : Node) (i : ℕ) (input : Doc) (d : Doc-F Doc) → Brings (wait_here node i input d).child
brings_wait_here node i input Doc-F.Null = tt
brings_wait_here node i input (Doc-F.Bool b) = tt
brings_wait_here node i input (Doc-F.Int z) = tt
brings_wait_here node i input (Doc-F.List ds) = tt
brings_wait_here node i input (Doc-F.Table es) = tt
brings_wait_here node i input (Doc-F.Text []) = tt
brings_wait_here node i input (Doc-F.Text (x ∷ xs)) =
    brings_or (λ seconds. attempt_at node i (Holds (Some seconds)) input) _ (failed_at node i (codes "bad duration") input) (λ n. tt) tt

brings_wait : (node : Node) (i : ℕ) (input : Doc) → Brings (wait_at node i input).child
brings_wait node i input =
    brings_or (λ d. wait_here node i input (out-Doc d)) (field (codes "duration") input) (attempt_at node i (Holds None) input)
    (λ d. brings_wait_here node i input (out-Doc d)) tt

brings_child : (limits : Limits) (node : Node) (i : ℕ) (def : FlowDef) (input : Doc) → HasFit def → Brings (child_at limits node i def input).child
brings_child limits node i def input fit = by_size (is_too_large limits (with_template def.template input)) where
  by_size : (b : Bool) → Brings (if b then record (failed_at node i (codes "document limit") input) { child = TooLarge }
      else record (attempt_at node i (Holds None) input) { child = NewFlow def (with_template def.template input) }).child
  by_size true = tt
  by_size false = fit

brings_sub_flow : (limits : Limits) (s : Sight) (node : Node) (i : ℕ) (name : List ℕ) (o : Option FlowDef) (input : Doc) → Held HasFit o → Brings (sub_flow_at limits s node i name o input).child
brings_sub_flow limits s node i name None input held = tt
brings_sub_flow limits s node i name (Some def) input held = by_depth (nat_le limits.nesting s.depth) where
  by_depth : (b : Bool) → Brings (if b then refused_at node i (codes "sub-workflow depth") input else child_at limits node i def input).child
  by_depth true = tt
  by_depth false = brings_child limits node i def input held

start_task : (limits : Limits) (s : Sight) (node : Node) (i : ℕ) (o : Option TaskDef) (input : Doc) → AllStart (schedule_task limits s node i o input)
start_task limits s node i None input = (tt, tt)
start_task limits s node i (Some def) input = start_one limits s _ tt

start_ending : (input : Doc) (status : Option FlowStatus) → AllStart (end_by input status)
start_ending input None = (tt, tt)
start_ending input (Some status) = (tt, tt)

start_joined : (limits : Limits) (output : Doc) (p : ℕ) → AllStart (joined limits output p)
start_joined limits output p = start_alone limits (output ∷ []) (Close p Completed None (Some output)) tt

start_turned : (limits : Limits) (p turn : ℕ) (output : Doc) (b : Bool) → AllStart (turned_on limits p turn output b)
start_turned limits p turn output true =
    let more = with_key (codes "iteration") (Doc.Int (pos (turn + 1))) output in
    start_alone limits (more ∷ []) (TurnOn p more (turn + 1)) tt
start_turned limits p turn output false = start_joined limits output p

held_turn : (limits : Limits) (s : Sight) (p : ℕ) (a : Seen) (kind : NodeKind) → Held AllStart (turn_of_loop limits s p a kind)
held_turn limits s p a Simple = tt
held_turn limits s p a (Switch cases) = tt
held_turn limits s p a (Fork' n branches) = tt
held_turn limits s p a (Join references) = tt
held_turn limits s p a (Loop' count n body) = start_turned limits p a.turn (turned_output s a.turn (Loop' count n body) a.output) (turns_on a.turn count a.input)
held_turn limits s p a (SubFlow name version) = tt
held_turn limits s p a SetVariable = tt
held_turn limits s p a Wait = tt
held_turn limits s p a Human = tt
held_turn limits s p a Terminate = tt

module _ (limits : Limits) (scene : Scene) (each : All HasFit scene.flow_defs) where
  start_kind : (s : Sight) (node : Node) (i : ℕ) (kind : NodeKind) (input : Doc) → AllStart (schedule_kind limits scene s node i kind input)
  start_kind s node i Simple input = start_task limits s node i (task_def_named node.name scene.task_defs) input
  start_kind s node i (Switch (Cases' param n cases m nodes)) input = start_one limits s _ tt
  start_kind s node i (Fork' n branches) input = start_one limits s _ tt
  start_kind s node i (Join references) input = start_one limits s _ tt
  start_kind s node i (Loop' count n body) input = start_one limits s (counted_at node i count input) (brings_counted node i count input)
  start_kind s node i (SubFlow name version) input =
      start_one limits s _ (brings_sub_flow limits s node i name (flow_def_for name version scene.flow_defs) input (held_for name version scene.flow_defs each))
  start_kind s node i SetVariable input =
      (let n = attempt_at node i (Over Completed) input in
      let variables = with_all (entries_of input) s.variables in
      start_limit limits s (n.input ∷ n.output ∷ variables ∷ []) (Variables variables ∷ Add n ∷ []) (tt, (tt, tt)))
  start_kind s node i Wait input = start_one limits s (wait_at node i input) (brings_wait node i input)
  start_kind s node i Human input = start_one limits s _ tt
  start_kind s node i Terminate input =
      (let n = attempt_at node i (Over Completed) input in
      start_limit limits s (n.input ∷ n.output ∷ []) (Add n ∷ end_by input (named_end input)) (tt, start_ending input (named_end input)))

  held_step : (s : Sight) (next : Next) → Held AllStart (take_step limits scene s next)
  held_step s (Schedule index i) =
      held_map AllStart (λ (n : Node). schedule limits scene s n i) (node_at s.def.nodes index) (λ n. start_kind s n i n.kind (filled_in scene s n.input))
  held_step s (Joins index i) =
      held_map AllStart (joined limits (join_output s index i)) (last_place s.attempts index i) (λ p. start_joined limits (join_output s index i) p)
  held_step s (Turns index i) =
      held_then AllStart (λ (n : Node). option_and_then (turn_at_place limits s n) (last_place s.attempts index i)) (node_at s.def.nodes index)
      (λ n. held_then AllStart (turn_at_place limits s n) (last_place s.attempts index i) (λ p. held_then AllStart _ _ (λ a. held_turn limits s p a n.kind)))
  held_step s Waits = tt
  held_step s Done = tt

  held_done : (s : Sight) (next : Next) → Held AllStart (all_done limits scene s next)
  held_done s (Schedule index i) = tt
  held_done s (Joins index i) = tt
  held_done s (Turns index i) = tt
  held_done s Waits = tt
  held_done s Done =
      let output = flow_output scene s in
      start_alone limits (output ∷ []) (End flow.Completed None (Some output)) tt

  start_child : (p : ℕ) (c : ChildState) → AllStart (child_ended limits scene p c)
  start_child p c =
      let output = child_output scene.mark c in
      start_alone limits (output ∷ []) (Close p (child_outcome c.status) (Some c.reason) (Some output)) tt

  -- ---- all rules

  held_first : (os : List (Option (List Act))) → Each (Held AllStart) os → Held AllStart (first_of os)
  held_first [] h = tt
  held_first (Some acts ∷ rest) h = h.0
  held_first (None ∷ rest) h = held_first rest h.1

  held_pick : (s : Sight) → Held AllStart (pick limits scene s)
  unfolding pick
  held_pick s =
      held_if AllStart (is_running s.status) (first_of (rules limits scene s)) None
      (held_first (rules limits scene s) (
        held_if AllStart scene.orphan (Some parent_ended) None (tt, tt) tt,
        (
          held_if AllStart s.over_time (Some (ran_too_long s.def.alert_only)) None (start_too_long s.def.alert_only) tt,
          (
            held_map AllStart _ (first_due s.due) (λ found. start_past_due s found.0 found.1),
            (
              held_map AllStart _ (first_some s.ended) (λ found. start_child found.0 found.1),
              (
                held_map AllStart _ (first_lost s.attempts) (λ found. start_lost limits s found.0 found.1),
                (
                  held_step s (next_step s.attempts s.def.nodes),
                  (held_done s (next_step s.attempts s.def.nodes), tt),
                ),
              ),
            ),
          ),
        ),
      ))
      tt

-- ---- what the numbers and the count of kept flows allow

brings_fitted : (r : Room) (n : NewAttempt) (child : Child) → Brings n.child → Brings (fitted_child r n child).child
brings_fitted r n Nothing h = h
brings_fitted r n Refused h = h
brings_fitted r n TooLarge h = by_room r.full where
  by_room : (b : Bool) → Brings (if b then store_full n else n).child
  by_room true = tt
  by_room false = h
brings_fitted r n (NewFlow def input) h = by_room (r.full || r.unnumbered) where
  by_room : (b : Bool) → Brings (if b then store_full n else n).child
  by_room true = tt
  by_room false = h

start_fitted : (r : Room) (acts : List Act) → AllStart acts → AllStart (map (fitted r) acts)
start_fitted r [] h = tt
start_fitted r (act ∷ rest) h = (one act h.0, start_fitted r rest h.1) where
  one : (act : Act) → Starts act → Starts (fitted r act)
  one (Add n) h = brings_fitted r n n.child h
  one (Close p o x out) h = tt
  one (Note p x y) h = tt
  one (Forgive p) h = tt
  one (TurnOn p out turn) h = tt
  one (Variables v) h = tt
  one (NoteFlow x) h = tt
  one (End s x out) h = tt

start_allowed : (r : Room) (acts : List Act) → AllStart acts → AllStart (allowed r acts)
start_allowed r acts h = start_if (r.spent && list_any is_add acts) (fails (codes "numbers spent") None) (map (fitted r) acts) (tt, tt) (start_fitted r acts h)

-- ---- decisions

-- the loops fit of the flow and of those that it started
record IsFitTurn (t : Turn) : Type 0 where
  flow : RunsFit t.flow
  children : All RunsFit t.children

fit_started : (e : ℕ) (t : Turn) (child : Child) → Brings child → All RunsFit (children_started e t child)
fit_started e t Nothing h = All-nil RunsFit
fit_started e t (NewFlow def input) h = All-cons RunsFit _ [] h (All-nil RunsFit)
fit_started e t TooLarge h = All-nil RunsFit
fit_started e t Refused h = All-nil RunsFit

fit_make : (e : ℕ) (act : Act) (t : Turn) → Starts act → All RunsFit t.children → All RunsFit (make e act t).children
fit_make e (Add n) t h each = All-append RunsFit t.children (children_started e t n.child) each (fit_started e t n.child h)
fit_make e (Close p o r out) t h each = each
fit_make e (Note p x r) t h each = each
fit_make e (Forgive p) t h each = each
fit_make e (TurnOn p out turn) t h each = each
fit_make e (Variables v) t h each = each
fit_make e (NoteFlow r) t h each = each
fit_make e (End s r out) t h each = each

fit_children : (e : ℕ) (acts : List Act) (t : Turn) → AllStart acts → All RunsFit t.children → All RunsFit (made e acts t).children
fit_children e [] t h each = each
fit_children e (act ∷ rest) t h each = fit_children e rest (make e act t) h.1 (fit_make e act t h.0 each)

fit_made : (e : ℕ) (acts : List Act) (t : Turn) → AllStart acts → IsFitTurn t → IsFitTurn (made e acts t)
fit_made e acts t h fit = record { flow = subst HasFit (sym (made_def e acts t)) fit.flow; children = fit_children e acts t h fit.children }

module _ (limits : Limits) (scene : Scene) (each : All HasFit scene.flow_defs) (kept e : ℕ) where
  held_choose : (t : Turn) → Held AllStart (choose limits scene kept e t)
  held_choose t = by_pick (pick limits scene (sight e scene.children t.flow)) (held_pick limits scene each (sight e scene.children t.flow)) where
    by_pick : (o : Option (List Act)) → Held AllStart o → Held AllStart (option_map (allowed (room limits kept t)) o)
    by_pick None h = tt
    by_pick (Some acts) h = start_allowed (room limits kept t) acts h

  fit_after : (n : ℕ) (t : Turn) → IsFitTurn t → IsFitTurn (after limits scene kept e n t)
  unfolding rule
  fit_after zero t fit = fit
  fit_after (suc n) t fit = by_choice (choose limits scene kept e t) (held_choose t) (λ u h. fit_after n u h) where
    by_choice : (o : Option (List Act)) → Held AllStart o → ((u : Turn) → IsFitTurn u → IsFitTurn (after limits scene kept e n u))
        → IsFitTurn (option_map_or (λ next. after limits scene kept e n next) (option_map (λ acts. made e acts t) o) t)
    by_choice None h on = fit
    by_choice (Some acts) h on = on (made e acts t) (fit_made e acts t h fit)

  fit_decide : (t : Turn) → IsFitTurn t → IsFitTurn (decide limits scene kept e t)
  unfolding decide
  fit_decide t fit = fit_after (rules_at_most limits t) t fit

-- ---- states

fit_revised : (place : ℕ) (before now : Flow) (ks : List Kept) → RunsFit now → All KeepsFit ks → All KeepsFit (map (revised place before now) ks)
fit_revised place before now [] fit each = All-nil KeepsFit
fit_revised place before now (k ∷ ks) fit each =
    All-cons KeepsFit (revised place before now k) (map (revised place before now) ks)
    (by_tests (is_flow now.number k) (is_concerned before now k.flow) (All-head KeepsFit k ks each)) (fit_revised place before now ks fit (All-tail KeepsFit k ks each))
  where
    by_tests : (b c : Bool) → KeepsFit k → KeepsFit (if b then new_kept place now else if c then record k { revision = place } else k)
    by_tests true c h = fit
    by_tests false true h = h
    by_tests false false h = h

decided_fit : (limits : Limits) (place e : ℕ) (before now : Flow) (s : State) → HasFitLoops s → RunsFit now → HasFitLoops (with_decided limits place e before now s)
decided_fit limits place e before now s fit runs =
    let turn = decided limits e now s in
    let fits : IsFitTurn turn =
    fit_decide limits (scene_in s now) fit.registered (length s.flows) e (turn_at now (record { flow = s.next_flow; task = s.next_task }))
    (record { flow = runs; children = All-nil RunsFit }) in
    record {
      registered = fit.registered;
      kept =
          All-append KeepsFit (map (revised place before turn.flow) s.flows) (map (new_kept place) turn.children)
          (fit_revised place before turn.flow s.flows fits.flow fit.kept) (All-map KeepsFit (new_kept place) turn.children fits.children);
    }

settle_fit : (limits : Limits) (place e : ℕ) (s : State) (k : Kept) → HasFitLoops s → KeepsFit k → HasFitLoops (settle limits place e k.flow s)
settle_fit limits place e s k fit keeps = by_test (is_settled limits e s k.flow) where
  by_test : (b : Bool) → HasFitLoops (if b then s else with_decided limits place e k.flow k.flow s)
  by_test true = fit
  by_test false = decided_fit limits place e k.flow k.flow s fit keeps

operated_fit : (limits : Limits) (place e : ℕ) (operation : Operation) (s : State) (k : Kept) → HasFitLoops s → KeepsFit k → HasFitLoops (with_operated limits place e operation k.flow s)
operated_fit limits place e operation s k fit keeps =
    by_test (stops_flow operation) (operated e s.next_task operation k.flow) (subst HasFit (sym (operated_stays e s.next_task operation k.flow).2) keeps)
  where
    by_test : (b : Bool) (now : Flow) → RunsFit now
        → HasFitLoops (if b then with_undecided place e k.flow now s else with_decided limits place e k.flow now (record s { next_task = next_after operation s.next_task }))
    by_test true now runs = record { registered = fit.registered; kept = fit_revised place k.flow now s.flows runs fit.kept }
    by_test false now runs =
        decided_fit limits place e k.flow now (record s { next_task = next_after operation s.next_task }) (record { registered = fit.registered; kept = fit.kept }) runs

removed_fit : (place e : ℕ) (s : State) (k : Kept) → HasFitLoops s → KeepsFit k → HasFitLoops (record s { last = e; flows = removed place k.flow s.flows })
removed_fit place e s k fit keeps = record {
  registered = fit.registered;
  kept =
      All-filter (is_other k.flow.number) KeepsFit (map (revised place k.flow (emptied k.flow)) s.flows)
      (fit_revised place k.flow (emptied k.flow) s.flows keeps fit.kept);
}

-- ---- calls

abbrev LeavesFit : Stepped → Type 0
LeavesFit x = HasFitLoops x.state

fit_if : (b : Bool) (x y : Stepped) → LeavesFit x → LeavesFit y → LeavesFit (if b then x else y)
fit_if true x y p q = p
fit_if false x y p q = q

fit_found : {T : Type 0} (P : T → Type 0) (o : Option T) (f : T → Stepped) (x : Stepped) → Held P o → ((v : T) → P v → LeavesFit (f v)) → LeavesFit x → LeavesFit (option_map_or f o x)
fit_found P None f x held p q = q
fit_found P (Some v) f x held p q = p v held

fit_refused : (s : State) (o : Option Refusal) (made : Stepped) → HasFitLoops s → LeavesFit made → LeavesFit (or_refused o made s)
fit_refused s None made fit p = p
fit_refused s (Some refusal) made fit p = fit

fit_read : {T : Type 0} (s : State) (o : Option T) (f : T → Reply) (r : Refusal) → HasFitLoops s → LeavesFit (option_map_or (λ x. stepped s (f x)) o (refused r s))
fit_read s None f r fit = fit
fit_read s (Some x) f r fit = fit

put_tasks_fit : (place e : ℕ) (defs : List TaskDef) (s : State) → HasFitLoops s → LeavesFit (put_task_defs place e defs s)
put_tasks_fit place e [] s fit = fit
put_tasks_fit place e (c ∷ cs) s fit = record { registered = fit.registered; kept = fit.kept }

put_flows_fit : (place e : ℕ) (defs : List FlowDef) (s : State) → HasFitLoops s → All HasFit defs → LeavesFit (put_flow_defs place e defs s)
put_flows_fit place e [] s fit new = fit
put_flows_fit place e (c ∷ cs) s fit new = record { registered = fit_with_all (c ∷ cs) s.flow_defs new fit.registered; kept = fit.kept }

start_fit : (limits : Limits) (place e : ℕ) (o : Option FlowDef) (input : Doc) (correlation : List ℕ) (s : State) → HasFitLoops s → Held HasFit o
    → LeavesFit (start_of limits place e o input correlation s)
start_fit limits place e None input correlation s fit held = fit
start_fit limits place e (Some def) input correlation s fit held =
    let filled = with_template def.template input in
    let flow = new_flow (record { 0 = s.next_flow }) def filled correlation None 0 e in
    fit_if (is_full limits s) _ _ fit
    (fit_if (is_too_long limits filled) (refused DocumentLimit s) (started limits place e def filled correlation s) fit
    (decided_fit limits place e flow flow (record s { next_flow = s.next_flow + 1; flows = s.flows ++ new_kept place flow ∷ [] })
    (record { registered = fit.registered; kept = All-append KeepsFit s.flows (new_kept place flow ∷ []) fit.kept (All-cons KeepsFit (new_kept place flow) [] held (All-nil KeepsFit)) })
    held))

update_fit : (limits : Limits) (place e : ℕ) (wanted : Option FlowNo) (number : TaskNo) (outcome : TaskResult) (o : Option Kept) (s : State) → HasFitLoops s → Held KeepsFit o
    → LeavesFit (update_of limits place e wanted number outcome o s)
update_fit limits place e wanted number outcome None s fit held = fit
update_fit limits place e wanted number outcome (Some k) s fit held =
    fit_if (is_wanted wanted k.flow.number) _ _ (by_attempt (attempt_numbered number k.flow.attempts)) fit
  where
    by_attempt : (o : Option Attempt) → LeavesFit (option_map_or (λ a. task_updated limits place e outcome k.flow a s) o (refused NotFound s))
    by_attempt None = fit
    by_attempt (Some a) =
        fit_if (not (task_is_open a.status)) _ _ fit
        (fit_if (not (is_kind_at takes_update k.flow.def a.node)) _ (settled_with limits place e outcome k.flow a s) fit (decided_fit limits place e k.flow _ s fit held))

call_fit : (limits : Limits) (place e : ℕ) (call : Call) (s : State) → HasFitLoops s → BringsFitLoops call → LeavesFit (call_made limits place e call s)
unfolding register start get_flow get_task poll update update_task_def drop_task_def get_task_def get_flow_def drop_flow_def get_running decide_flow sweep needs operate remove
call_fit limits place e (PutTaskDefs defs) s fit new = put_tasks_fit place e defs s fit
call_fit limits place e (UpdateTaskDef def) s fit new =
    fit_if (is_some (task_def_named def.name s.task_defs)) _ _ (record { registered = fit.registered; kept = fit.kept }) fit
call_fit limits place e TaskDefs s fit new = fit
call_fit limits place e (TaskDefNamed name) s fit new = fit_read s (task_def_named name s.task_defs) _ NotFound fit
call_fit limits place e (DropTaskDef name) s fit new =
    fit_if (is_some (task_def_named name s.task_defs)) _ _ (record { registered = fit.registered; kept = fit.kept }) fit
call_fit limits place e (AddFlowDef def) s fit new =
    fit_if (is_some (flow_def_at def.name def.version s.flow_defs)) _ _ fit (record { registered = fit_with def s.flow_defs new fit.registered; kept = fit.kept })
call_fit limits place e (PutFlowDefs defs) s fit new = put_flows_fit place e defs s fit new
call_fit limits place e FlowDefs s fit new = fit
call_fit limits place e (FlowDefNamed name version) s fit new = fit_read s (flow_def_for name version s.flow_defs) _ NotFound fit
call_fit limits place e (DropFlowDef name version) s fit new =
    fit_if (is_some (flow_def_at name version s.flow_defs)) _ _ (record { registered = fit_without name version s.flow_defs fit.registered; kept = fit.kept }) fit
call_fit limits place e (Start name version input correlation) s fit new =
    start_fit limits place e (flow_def_for name version s.flow_defs) input correlation s fit (held_for name version s.flow_defs fit.registered)
call_fit limits place e (GetFlow number tasks) s fit new = fit_read s (flow_numbered number s.flows) _ NotFound fit
call_fit limits place e (Running name version) s fit new = fit
call_fit limits place e (PollFor name worker) s fit new =
    fit_found (IsWaiting s.flows) (next_waiting name e s.flows) _ _ (next_waits name e s.flows)
    (λ w h. record { registered = fit.registered; kept = fit_revised place w.flow _ s.flows (all_stands KeepsFit _ s.flows fit.kept h.stands) fit.kept }) fit
call_fit limits place e (GetTask task) s fit new =
    fit_found KeepsFit (flow_of_task task s.flows) _ _ (held_find KeepsFit (has_attempt task) s.flows fit.kept)
    (λ k h. fit_read s (attempt_numbered task k.flow.attempts) _ NotFound fit) fit
call_fit limits place e (Update wanted number outcome) s fit new =
    update_fit limits place e wanted number outcome (flow_of_task number s.flows) s fit (held_find KeepsFit (has_attempt number) s.flows fit.kept)
call_fit limits place e (Decide number) s fit new =
    fit_found KeepsFit (flow_numbered number s.flows) _ _ (held_find KeepsFit (is_flow number) s.flows fit.kept) (λ k h. settle_fit limits place e s k fit h) fit
call_fit limits place e Sweep s fit new =
    fit_found KeepsFit (needs limits e s) _ _ (held_find KeepsFit (λ k. not (is_settled limits e s k.flow)) s.flows fit.kept) (λ k h. settle_fit limits place e s k fit h) fit
call_fit limits place e (Operate number operation) s fit new =
    fit_found KeepsFit (flow_numbered number s.flows) _ _ (held_find KeepsFit (is_flow number) s.flows fit.kept)
    (λ k h. fit_refused s (first_refusal (operation_refusals limits s.next_task operation k.flow)) _ fit (operated_fit limits place e operation s k fit h)) fit
call_fit limits place e (Remove number) s fit new =
    fit_found KeepsFit (flow_numbered number s.flows) _ _ (held_find KeepsFit (is_flow number) s.flows fit.kept)
    (λ k h. fit_refused s (first_refusal (remove_refusals (is_parent_kept s k.flow) k.flow)) _ fit (removed_fit place e s k fit h)) fit
call_fit limits place e Shutdown s fit new = fit
call_fit limits place e (Look number) s fit new = fit
call_fit limits place e Drain s fit new = fit

pub step_fit : (limits : Limits) (place : ℕ) (s : State) (entry : Entry) → HasFitLoops s → BringsFitLoops entry.call → HasFitLoops (step limits place s entry).state
step_fit limits place s entry fit new = fit_if entry.starved _ _ fit (call_fit limits place (max s.last entry.moment) entry.call s fit new)
