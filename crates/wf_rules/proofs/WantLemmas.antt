-- What a rule wants done of a flow can be made of it.
use Rattle.std.proofs.Common.{◌≡◌, ℕ, ℤ, pos, zero, suc, ◌+◌, ◌<◌, Bool, true, false, if◌then◌else◌, ◌&&◌, ◌||◌, nat_le, nat_lt, is_some, List, [], ◌∷◌, ◌++◌, map, length, slice_get, Option, None, Some, codes, refl, sym, ap, ◌∙◌, subst, arith}
use Rattle.std.specs.Prelude.{option_map, option_and_then}
use Rattle.std.specs.List.{list_any}
use Rattle.std.specs.Option.{option_map_or}
use Rattle.wf_doc.specs.declared.doc.Doc.{Doc}
use Rattle.wf_doc.specs.declared.doc.Doc.TheOpen.{Doc-F}
use Rattle.wf_doc.specs.declared.doc.Doc.TheViews.{out-Doc}
use Rattle.wf_doc.specs.Doc.{as_text, field}
use Rattle.wf_expr.specs.Filling.{text_of_any}
use Rattle.wf_names.specs.FlowStatus.{flow_is_open}
use Rattle.wf_names.specs.declared.statuses.TaskStatus.{TaskStatus}
use Rattle.wf_names.specs.declared.statuses.TaskStatus.TheVariants as task
use Rattle.wf_names.specs.declared.statuses.FlowStatus.{FlowStatus}
use Rattle.wf_names.specs.declared.statuses.FlowStatus.TheVariants as flow
use Rattle.wf_wire.specs.declared.limits.Limits.{Limits}
use Rattle.wf_rules.specs.declared.acting.Act.{Act}
use Rattle.wf_rules.specs.declared.acting.Act.TheVariants.{Add, Close, Forgive, Turn as TurnOn, Variables, End}
use Rattle.wf_rules.specs.declared.acting.Alert.{Alert}
use Rattle.wf_rules.specs.declared.acting.Alert.TheVariants.{Poll as PollAlert, Total as TotalAlert}
use Rattle.wf_rules.specs.declared.acting.Begin.TheVariants.{Held as Holds, Over}
use Rattle.wf_rules.specs.declared.acting.Child.{Child}
use Rattle.wf_rules.specs.declared.acting.Child.TheVariants.{Nothing, Flow as NewFlow, TooLarge, Refused}
use Rattle.wf_rules.specs.declared.acting.NewAttempt.{NewAttempt}
use Rattle.wf_rules.specs.declared.acting.Outcome.TheVariants.{Completed}
use Rattle.wf_machine.specs.declared.definition.Cases.{Cases'}
use Rattle.wf_machine.specs.declared.definition.Count.{Count}
use Rattle.wf_machine.specs.declared.definition.FlowDef.{FlowDef}
use Rattle.wf_machine.specs.declared.definition.Node.{Node}
use Rattle.wf_machine.specs.declared.definition.NodeKind.{NodeKind, Simple, Switch, Fork', Join, Loop', SubFlow, SetVariable, Wait, Human, Terminate}
use Rattle.wf_machine.specs.declared.definition.TaskDef.{TaskDef}
use Rattle.wf_machine.specs.declared.sight.ChildState.{ChildState}
use Rattle.wf_machine.specs.declared.timed.Cause.{Cause}
use Rattle.wf_machine.specs.declared.timed.Cause.TheVariants.{Poll, Response, Total, Wait as WaitDue}
use Rattle.wf_machine.specs.declared.timed.TaskPolicy.{TaskPolicy}
use Rattle.wf_machine.specs.declared.timed.TaskPolicy.TheVariants.{Retry, TimeOutWf, AlertOnly}
use Rattle.wf_machine.specs.declared.timed.Timing.{Timing}
use Rattle.wf_machine.specs.declared.walking.Mark.TheVariants.{Open}
use Rattle.wf_machine.specs.declared.walking.Next.{Next}
use Rattle.wf_machine.specs.declared.walking.Next.TheVariants.{Schedule, Join as Joins, Turn as Turns, Waits, Done as AllDone}
use Rattle.wf_machine.specs.Text.{same_text}
use Rattle.wf_time.specs.Durations.{duration}
use Rattle.wf_machine.specs.State.{empty_table}
use Rattle.wf_machine.specs.Sight.{Seen}
use Rattle.wf_rules.specs.Sight.{Sight, Scene, sight}
use Rattle.wf_machine.specs.Marks.{last_of, mark_of, next_step, node_at}
use Rattle.wf_machine.specs.Records.{IsMoment, IsRecord, is_kind_at, is_simple, is_sub_flow, is_loop}
use Rattle.wf_machine.specs.Naming.{with_template}
use Rattle.wf_machine.specs.Registered.{task_def_named, flow_def_for}
use Rattle.wf_rules.specs.Outputs.{is_too_large, filled_in, count_of, turns_on, join_output, with_key, child_output, choice_output, entries_of, with_all}
use Rattle.wf_rules.specs.Scheduling.{fails, within, adding_one, attempt_at, counted_at, loop_at, failed_at, wait_here, wait_at, sub_flow_at, refused_at, child_at, end_named, named_end, end_by, schedule_task, task_at, schedule_kind, schedule}
use Rattle.wf_rules.specs.Acts.{Turn, make, made}
use Rattle.wf_rules.specs.Rules.{first_some, first_due, first_lost, is_lost_status, last_place, timing_at, policy_of, parent_ended, ran_too_long, by_policy, past_due, child_outcome, child_ended, may_retry, retry_of, is_optional, end_for, lost_reason, unretried, lost, joined, turned_on, turn_of_loop, turn_at_place, take_step, all_done, flow_output, r0, r1, r2, r3, r4, r5, r6, first_of, rules, is_running, pick, Room, room, is_add, store_full, fitted_child, fitted, allowed, choose, rule, after, rules_at_most, decide}
use Rattle.wf_rules.specs.Plans.{AllBelow, is_of_sub_flow}
use Rattle.wf_rules.specs.Making.{is_queued, is_held, IsFit, OpenAt, CanMake, CanMakeAll}
use Rattle.wf_rules.proofs.SightLemmas.{shown, sight_make}
use Rattle.wf_rules.proofs.PlanLemmas.{below_mono, made_flows}
use Rattle.wf_rules.proofs.OpenLemmas.{IsAtOpen, open_step}
use Rattle.wf_rules.proofs.FallLemmas.{AtLast, at_last}
use Rattle.wf_rules.proofs.EndLemmas.{IfFound, IsSeen, due_at, end_at, lost_at, open_mark, node_index, is_seen}
use Rattle.wf_rules.proofs.MakeLemmas.{record_made}

-- the acts can be made of the flow that is seen so
abbrev pub CanDo : Sight → List Act → Type 0
CanDo s [] = Unit {0}
CanDo s (act ∷ rest) = CanMake s.def (is_running s.status) s.attempts act × CanDo (shown act s) rest

-- whatever room there is
abbrev Fits : Sight → List Act → Type 0
Fits s acts = (r : Room) → CanDo s (map (fitted r) acts)

abbrev AreFit : Sight → Option (List Act) → Type 0
AreFit s None = Unit {0}
AreFit s (Some acts) = Fits s acts

fit_map : {T : Type 0} (s : Sight) (o : Option T) (P : T → Type 0) (f : T → List Act) → IfFound o P → ((x : T) → P x → Fits s (f x)) → AreFit s (option_map f o)
fit_map s None P f h k = tt
fit_map s (Some x) P f h k = k x h

fits_if : (s : Sight) (b : Bool) (xs ys : List Act) → Fits s xs → Fits s ys → Fits s (if b then xs else ys)
fits_if s true xs ys p q = p
fits_if s false xs ys p q = q

fits_within : (limits : Limits) (s : Sight) (docs : List Doc) (acts : List Act) → Fits s acts → Fits s (within limits docs acts)
fits_within limits s docs acts h = fits_if s (list_any (is_too_large limits) docs) (fails (codes "document limit") (Some empty_table)) acts (λ r. (refl, tt)) h

fits_limit : (limits : Limits) (s : Sight) (acts : List Act) → Fits s acts → Fits s (if nat_le limits.attempts (length s.attempts) then fails (codes "attempt limit") None else acts)
fits_limit limits s acts h = fits_if s (nat_le limits.attempts (length s.attempts)) (fails (codes "attempt limit") None) acts (λ r. (refl, tt)) h

-- ---- r2, r3, r4

fits_policy : (s : Sight) (p : ℕ) (alert : Alert) (r : List ℕ) (policy : TaskPolicy) → OpenAt s.attempts p → Fits s (by_policy p alert r policy)
fits_policy s p alert r Retry h = λ room. (h, tt)
fits_policy s p alert r TimeOutWf h = λ room. (h, (refl, tt))
fits_policy s p alert r AlertOnly h = λ room. (h, tt)

fits_past_due : (s : Sight) (p : ℕ) (c : Cause) → OpenAt s.attempts p → Fits s (past_due s p c)
fits_past_due s p Poll h = fits_policy s p PollAlert (codes "poll timeout") (policy_of (timing_at p s.attempts)) h
fits_past_due s p Response h = λ r. (h, tt)
fits_past_due s p Total h = fits_policy s p TotalAlert (codes "total timeout") (policy_of (timing_at p s.attempts)) h
fits_past_due s p WaitDue h = λ r. (h, tt)

fits_child : (limits : Limits) (scene : Scene) (s : Sight) (p : ℕ) (c : ChildState) → OpenAt s.attempts p → Fits s (child_ended limits scene p c)
fits_child limits scene s p c h =
    let output = child_output scene.mark c in
    fits_within limits s (output ∷ []) (Close p (child_outcome c.status) (Some c.reason) (Some output) ∷ []) (λ r. (h, tt))

closed_for : (status : TaskStatus) → flow_is_open (end_for status) ≡ false
closed_for task.Scheduled = refl
closed_for task.InProgress = refl
closed_for task.Completed = refl
closed_for task.CompletedWithErrors = refl
closed_for task.Failed = refl
closed_for task.FailedWithTerminalError = refl
closed_for task.TimedOut = refl
closed_for task.Canceled = refl
closed_for task.Skipped = refl

fits_unretried : (s : Sight) (p : ℕ) (a : Seen) → slice_get s.attempts p ≡ Some a → is_lost_status a.status ≡ true → Fits s (unretried s p a)
fits_unretried s p a there gone =
    fits_if s (is_optional s a.node) (Forgive p ∷ []) (End (end_for a.status) (Some (lost_reason s a a.reason)) None ∷ []) (λ r. ((a, there, gone), tt)) (λ r. (closed_for a.status, tt))

fits_retry : (limits : Limits) (s : Sight) (p : ℕ) (a : Seen) (timing : Timing) → is_running s.status ≡ true → slice_get s.attempts p ≡ Some a → is_kind_at is_simple s.def a.node ≡ true
    → Fits s (adding_one limits s (retry_of p a timing))
fits_retry limits s p a timing runs there simple =
    let n = retry_of p a timing in
    fits_limit limits s (within limits (n.input ∷ n.output ∷ []) (Add n ∷ []))
    (fits_within limits s (n.input ∷ n.output ∷ []) (Add n ∷ [])
    (λ r. (
      (
        runs,
        record {
          queued = simple;
          child = λ x. cc;
          turn = λ x y. cc;
          simple = λ x. simple;
          retried = record { attempt = a; there = there; same_node = refl; same_turn = refl };
        },
      ),
      tt,
    )))

fits_lost : (limits : Limits) (s : Sight) (p : ℕ) (a : Seen) → is_running s.status ≡ true → slice_get s.attempts p ≡ Some a → is_lost_status a.status ≡ true → Fits s (lost limits s p a)
fits_lost limits s p a runs there gone = by_kind (is_kind_at is_simple s.def a.node) (may_retry a.status) refl where
  by_timing : (o : Option Timing) → is_kind_at is_simple s.def a.node ≡ true → Fits s (option_map_or (λ timing. adding_one limits s (retry_of p a timing)) o (unretried s p a))
  by_timing None e = fits_unretried s p a there gone
  by_timing (Some timing) e = fits_retry limits s p a timing runs there e

  by_kind : (b c : Bool) → is_kind_at is_simple s.def a.node ≡ b
      → Fits s (option_map_or (λ timing. adding_one limits s (retry_of p a timing))
      (if b && c then option_and_then (λ (t : Timing). if nat_lt a.retry t.retry_count then Some t else None) a.timing else None) (unretried s p a))
  by_kind true true e = by_timing (option_and_then (λ (t : Timing). if nat_lt a.retry t.retry_count then Some t else None) a.timing) e
  by_kind true false e = fits_unretried s p a there gone
  by_kind false c e = fits_unretried s p a there gone

-- ---- r5: scheduling

-- the new attempt suits a node of that kind, which isn't SIMPLE
record Suits (index : ℕ) (kind : NodeKind) (n : NewAttempt) : Type 0 where
  node : n.node ≡ index
  queued : is_queued n.begin ≡ false
  child : is_of_sub_flow n.child ≡ true → is_sub_flow kind ≡ true
  turn : is_loop kind ≡ true → is_held n.begin ≡ true → 0 < n.turn
  retried : n.retried ≡ None

suits_fitted : (index : ℕ) (kind : NodeKind) (r : Room) (n : NewAttempt) (child : Child) → n.child ≡ child → Suits index kind n → Suits index kind (fitted_child r n child)
suits_fitted index kind r n Nothing is h = h
suits_fitted index kind r n Refused is h = h
suits_fitted index kind r n TooLarge is h = by_room r.full where
  by_room : (b : Bool) → Suits index kind (if b then store_full n else n)
  by_room true = record { node = h.node; queued = refl; child = λ x. h.child (rw is refl); turn = λ x y. cc; retried = h.retried }
  by_room false = h
suits_fitted index kind r n (NewFlow def input) is h = by_room (r.full || r.unnumbered) where
  by_room : (b : Bool) → Suits index kind (if b then store_full n else n)
  by_room true = record { node = h.node; queued = refl; child = λ x. h.child (rw is refl); turn = λ x y. cc; retried = h.retried }
  by_room false = h

-- the node of that index is of this kind
abbrev KindIs : Sight → ℕ → NodeKind → Type 0
KindIs s index kind = (test : NodeKind → Bool) → is_kind_at test s.def index ≡ test kind

suits_fit : (s : Sight) (index : ℕ) (kind : NodeKind) (n : NewAttempt) → KindIs s index kind → is_simple kind ≡ false → Suits index kind n → IsFit s.def s.attempts n
suits_fit s index kind n at other h = record {
  queued = ap (is_kind_at is_simple s.def) h.node ∙ (at is_simple ∙ (other ∙ sym h.queued));
  child = λ x. ap (is_kind_at is_sub_flow s.def) h.node ∙ (at is_sub_flow ∙ h.child x);
  turn = λ x y. h.turn (sym (at is_loop) ∙ (ap (is_kind_at is_loop s.def) (sym h.node) ∙ x)) y;
  simple = λ x. (let none : is_some n.retried ≡ false = ap is_some h.retried in let no : false ≡ true = sym none ∙ x in absurd cc);
  retried = rw (h.retried) tt;
}

fits_new : (limits : Limits) (s : Sight) (index : ℕ) (kind : NodeKind) (n : NewAttempt) → is_running s.status ≡ true → KindIs s index kind → is_simple kind ≡ false → Suits index kind n → Fits s (adding_one limits s n)
fits_new limits s index kind n runs at other h =
    fits_limit limits s (within limits (n.input ∷ n.output ∷ []) (Add n ∷ []))
    (fits_within limits s (n.input ∷ n.output ∷ []) (Add n ∷ [])
    (λ r. ((runs, suits_fit s index kind (fitted_child r n n.child) at other (suits_fitted index kind r n n.child refl h)), tt)))

suits_over : (node : Node) (i : ℕ) (kind : NodeKind) (input : Doc) → Suits node.index kind (attempt_at node i (Over Completed) input)
suits_over node i kind input = record { node = refl; queued = refl; child = λ x. cc; turn = λ x y. cc; retried = refl }

suits_failed : (node : Node) (i : ℕ) (kind : NodeKind) (reason : List ℕ) (input : Doc) → Suits node.index kind (failed_at node i reason input)
suits_failed node i kind reason input = record { node = refl; queued = refl; child = λ x. cc; turn = λ x y. cc; retried = refl }

suits_held : (node : Node) (i : ℕ) (kind : NodeKind) (delay : Option ℕ) (input : Doc) → is_loop kind ≡ false → Suits node.index kind (attempt_at node i (Holds delay) input)
suits_held node i kind delay input other =
    record { node = refl; queued = refl; child = λ x. cc; turn = λ x y. (let no : false ≡ true = sym other ∙ x in absurd cc); retried = refl }

suits_counted : (node : Node) (i : ℕ) (kind : NodeKind) (count : Count) (input : Doc) → Suits node.index kind (counted_at node i count input)
suits_counted node i kind count input = by_count (count_of count input) where
  by_count : (o : Option ℤ) → Suits node.index kind (option_map_or (λ n. loop_at node i input) o (failed_at node i (codes "bad loop count") input))
  by_count None = suits_failed node i kind (codes "bad loop count") input
  by_count (Some n) = record { node = refl; queued = refl; child = λ x. cc; turn = λ x y. omega arith; retried = refl }

suits_wait_here : (node : Node) (i : ℕ) (input : Doc) (d : Doc-F Doc) → Suits node.index Wait (wait_here node i input d)
suits_wait_here node i input Doc-F.Null = suits_held node i Wait None input refl
suits_wait_here node i input (Doc-F.Bool b) = suits_failed node i Wait (codes "bad duration") input
suits_wait_here node i input (Doc-F.Int z) = suits_failed node i Wait (codes "bad duration") input
suits_wait_here node i input (Doc-F.List ds) = suits_failed node i Wait (codes "bad duration") input
suits_wait_here node i input (Doc-F.Table es) = suits_failed node i Wait (codes "bad duration") input
suits_wait_here node i input (Doc-F.Text []) = suits_held node i Wait None input refl
suits_wait_here node i input (Doc-F.Text (x ∷ xs)) = by_seconds (duration (x ∷ xs)) where
  by_seconds : (o : Option ℕ) → Suits node.index Wait (option_map_or (λ seconds. attempt_at node i (Holds (Some seconds)) input) o (failed_at node i (codes "bad duration") input))
  by_seconds None = suits_failed node i Wait (codes "bad duration") input
  by_seconds (Some n) = suits_held node i Wait (Some n) input refl

suits_wait : (node : Node) (i : ℕ) (input : Doc) → Suits node.index Wait (wait_at node i input)
suits_wait node i input = by_field (field (codes "duration") input) where
  by_field : (o : Option Doc) → Suits node.index Wait (option_map_or (λ d. wait_here node i input (out-Doc d)) o (attempt_at node i (Holds None) input))
  by_field None = suits_held node i Wait None input refl
  by_field (Some d) = suits_wait_here node i input (out-Doc d)

suits_refused : (node : Node) (i : ℕ) (kind : NodeKind) (reason : List ℕ) (input : Doc) → is_sub_flow kind ≡ true → Suits node.index kind (refused_at node i reason input)
suits_refused node i kind reason input sub = record { node = refl; queued = refl; child = λ x. sub; turn = λ x y. cc; retried = refl }

suits_child : (limits : Limits) (node : Node) (i : ℕ) (name : List ℕ) (version : Option ℕ) (def : FlowDef) (input : Doc) → Suits node.index (SubFlow name version) (child_at limits node i def input)
suits_child limits node i name version def input = by_size (is_too_large limits (with_template def.template input)) where
  by_size : (b : Bool) → Suits node.index (SubFlow name version)
      (if b then record (failed_at node i (codes "document limit") input) { child = TooLarge }
      else record (attempt_at node i (Holds None) input) { child = NewFlow def (with_template def.template input) })
  by_size true = record { node = refl; queued = refl; child = λ x. refl; turn = λ x y. cc; retried = refl }
  by_size false = record { node = refl; queued = refl; child = λ x. refl; turn = λ x y. cc; retried = refl }

suits_sub_flow : (limits : Limits) (s : Sight) (node : Node) (i : ℕ) (name : List ℕ) (version : Option ℕ) (def : Option FlowDef) (input : Doc)
    → Suits node.index (SubFlow name version) (sub_flow_at limits s node i name def input)
suits_sub_flow limits s node i name version None input = suits_refused node i (SubFlow name version) (codes "no workflow definition " ++ name) input refl
suits_sub_flow limits s node i name version (Some def) input = by_depth (nat_le limits.nesting s.depth) where
  by_depth : (b : Bool) → Suits node.index (SubFlow name version) (if b then refused_at node i (codes "sub-workflow depth") input else child_at limits node i def input)
  by_depth true = suits_refused node i (SubFlow name version) (codes "sub-workflow depth") input refl
  by_depth false = suits_child limits node i name version def input

fits_task : (limits : Limits) (s : Sight) (node : Node) (i : ℕ) (def : Option TaskDef) (input : Doc) → is_running s.status ≡ true → KindIs s node.index Simple → Fits s (schedule_task limits s node i def input)
fits_task limits s node i None input runs at = λ r. (refl, tt)
fits_task limits s node i (Some def) input runs at =
    let n = task_at node i def input in
    fits_limit limits s (within limits (n.input ∷ n.output ∷ []) (Add n ∷ []))
    (fits_within limits s (n.input ∷ n.output ∷ []) (Add n ∷ [])
    (λ r. ((runs, record { queued = at is_simple; child = λ x. cc; turn = λ x y. cc; simple = λ x. cc; retried = tt }), tt)))

abbrev EndsClosed : Option FlowStatus → Type 0
EndsClosed None = Unit {0}
EndsClosed (Some status) = flow_is_open status ≡ false

closed_if : (b : Bool) (x y : Option FlowStatus) → EndsClosed x → EndsClosed y → EndsClosed (if b then x else y)
closed_if true x y p q = p
closed_if false x y p q = q

closed_named : (text : List ℕ) → EndsClosed (end_named text)
closed_named text =
    let last : Option FlowStatus = if same_text text (codes "TERMINATED") then Some flow.Terminated else None in
    let more : Option FlowStatus = if same_text text (codes "FAILED") then Some flow.Failed else last in
    closed_if (same_text text (codes "COMPLETED")) (Some flow.Completed) more refl
    (closed_if (same_text text (codes "FAILED")) (Some flow.Failed) last refl
    (closed_if (same_text text (codes "TERMINATED")) (Some flow.Terminated) None refl tt))

closed_input : (input : Doc) → EndsClosed (named_end input)
closed_input input = by_field (field (codes "terminationStatus") input) where
  by_text : (o : Option (List ℕ)) → EndsClosed (option_map_or end_named o None)
  by_text None = tt
  by_text (Some text) = closed_named text

  by_field : (o : Option Doc) → EndsClosed (option_map_or (λ d. option_map_or end_named (as_text d) None) o None)
  by_field None = tt
  by_field (Some d) = by_text (as_text d)

fits_ending : (s : Sight) (input : Doc) (status : Option FlowStatus) → EndsClosed status → Fits s (end_by input status)
fits_ending s input None h = λ r. (refl, tt)
fits_ending s input (Some status) h = λ r. (h, tt)

fits_kind : (limits : Limits) (scene : Scene) (s : Sight) (node : Node) (i : ℕ) (kind : NodeKind) (input : Doc) → is_running s.status ≡ true → KindIs s node.index kind → Fits s (schedule_kind limits scene s node i kind input)
fits_kind limits scene s node i Simple input runs at = fits_task limits s node i (task_def_named node.name scene.task_defs) input runs at
fits_kind limits scene s node i (Switch (Cases' param n cases m nodes)) input runs at =
    (let made = record (attempt_at node i (Over Completed) input) { output = choice_output (text_of_any (field param input)) } in
    fits_new limits s node.index (Switch (Cases' param n cases m nodes)) made runs at refl
    (record { node = refl; queued = refl; child = λ x. cc; turn = λ x y. cc; retried = refl }))
fits_kind limits scene s node i (Fork' n branches) input runs at =
    fits_new limits s node.index (Fork' n branches) (attempt_at node i (Over Completed) input) runs at refl (suits_over node i (Fork' n branches) input)
fits_kind limits scene s node i (Join references) input runs at =
    fits_new limits s node.index (Join references) (attempt_at node i (Holds None) input) runs at refl (suits_held node i (Join references) None input refl)
fits_kind limits scene s node i (Loop' count n body) input runs at =
    fits_new limits s node.index (Loop' count n body) (counted_at node i count input) runs at refl (suits_counted node i (Loop' count n body) count input)
fits_kind limits scene s node i (SubFlow name version) input runs at =
    (let def = flow_def_for name version scene.flow_defs in
    fits_new limits s node.index (SubFlow name version) (sub_flow_at limits s node i name def input) runs at refl (suits_sub_flow limits s node i name version def input))
fits_kind limits scene s node i SetVariable input runs at =
    (let n = attempt_at node i (Over Completed) input in
    let variables = with_all (entries_of input) s.variables in
    let docs = n.input ∷ n.output ∷ variables ∷ [] in
    fits_limit limits s (within limits docs (Variables variables ∷ Add n ∷ []))
    (fits_within limits s docs (Variables variables ∷ Add n ∷ [])
    (λ r. (tt, ((runs, suits_fit s node.index SetVariable n at refl (suits_over node i SetVariable input)), tt)))))
fits_kind limits scene s node i Wait input runs at = fits_new limits s node.index Wait (wait_at node i input) runs at refl (suits_wait node i input)
fits_kind limits scene s node i Human input runs at =
    fits_new limits s node.index Human (attempt_at node i (Holds None) input) runs at refl (suits_held node i Human None input refl)
fits_kind limits scene s node i Terminate input runs at =
    (let n = attempt_at node i (Over Completed) input in
    let acts = Add n ∷ end_by input (named_end input) in
    let docs = n.input ∷ n.output ∷ [] in
    fits_limit limits s (within limits docs acts)
    (fits_within limits s docs acts
    (λ r. ((runs, suits_fit s node.index Terminate n at refl (suits_over node i Terminate input)), fits_ending (shown (Add n) s) input (named_end input) (closed_input input) r))))

kind_found : (nodes : List Node) (index : ℕ) (n : Node) → node_at nodes index ≡ Some n → node_at nodes n.index ≡ Some n
kind_found nodes index n h = subst (λ k. node_at nodes k ≡ Some n) (sym (node_index nodes index n h)) h

fit_schedule : (limits : Limits) (scene : Scene) (s : Sight) (index i : ℕ) (o : Option Node) → node_at s.def.nodes index ≡ o → is_running s.status ≡ true
    → AreFit s (option_map (λ (n : Node). schedule limits scene s n i) o)
fit_schedule limits scene s index i None is runs = tt
fit_schedule limits scene s index i (Some n) is runs =
    fits_kind limits scene s n i n.kind (filled_in scene s n.input) runs (λ test. ap (λ o. option_map_or (λ (m : Node). test m.kind) o false) (kind_found s.def.nodes index n is))

-- ---- r5: JOIN and DO_WHILE

fits_joined : (limits : Limits) (s : Sight) (output : Doc) (p : ℕ) → OpenAt s.attempts p → Fits s (joined limits output p)
fits_joined limits s output p h = fits_within limits s (output ∷ []) (Close p Completed None (Some output) ∷ []) (λ r. (h, tt))

fit_joined : (limits : Limits) (s : Sight) (output : Doc) (index i : ℕ) (o : Option ℕ) → AtLast s.attempts index i o → mark_of (last_of s.attempts index i) ≡ Open → AreFit s (option_map (joined limits output) o)
fit_joined limits s output index i None at h = tt
fit_joined limits s output index i (Some p) at h = fits_joined limits s output p (at.0, at.1, open_mark at.0 (ap mark_of (sym (at.2)) ∙ h))

fits_turned : (limits : Limits) (s : Sight) (p turn : ℕ) (output : Doc) (on : Bool) → OpenAt s.attempts p → Fits s (turned_on limits p turn output on)
fits_turned limits s p turn output true h =
    let more = with_key (codes "iteration") (Doc.Int (pos (turn + 1))) output in
    fits_within limits s (more ∷ []) (TurnOn p more (turn + 1) ∷ []) (λ r. (omega arith, tt))
fits_turned limits s p turn output false h = fits_joined limits s output p h

fit_loop : (limits : Limits) (s : Sight) (p : ℕ) (x : Seen) (kind : NodeKind) → OpenAt s.attempts p → AreFit s (turn_of_loop limits s p x kind)
fit_loop limits s p x (Loop' count n body) h = fits_turned limits s p x.turn _ (turns_on x.turn count x.input) h
fit_loop limits s p x Simple h = tt
fit_loop limits s p x (Switch cases) h = tt
fit_loop limits s p x (Fork' n branches) h = tt
fit_loop limits s p x (Join references) h = tt
fit_loop limits s p x (SubFlow name version) h = tt
fit_loop limits s p x SetVariable h = tt
fit_loop limits s p x Wait h = tt
fit_loop limits s p x Human h = tt
fit_loop limits s p x Terminate h = tt

fit_turn : (limits : Limits) (s : Sight) (index i : ℕ) (n : Node) (o : Option ℕ) → AtLast s.attempts index i o → mark_of (last_of s.attempts index i) ≡ Open → AreFit s (option_and_then (turn_at_place limits s n) o)
fit_turn limits s index i n None at h = tt
fit_turn limits s index i n (Some p) at h = rw (at.1) (fit_loop limits s p at.0 n.kind (at.0, at.1, open_mark at.0 (ap mark_of (sym (at.2)) ∙ h)))

fit_turns : (limits : Limits) (s : Sight) (index i : ℕ) (o : Option Node) → mark_of (last_of s.attempts index i) ≡ Open
    → AreFit s (option_and_then (λ (n : Node). option_and_then (turn_at_place limits s n) (last_place s.attempts index i)) o)
fit_turns limits s index i None h = tt
fit_turns limits s index i (Some n) h = fit_turn limits s index i n (last_place s.attempts index i) (at_last s.attempts index i) h

fit_step : (limits : Limits) (scene : Scene) (s : Sight) (next : Next) → is_running s.status ≡ true → IsAtOpen s.attempts next → AreFit s (take_step limits scene s next)
fit_step limits scene s (Schedule index i) runs h = fit_schedule limits scene s index i (node_at s.def.nodes index) refl runs
fit_step limits scene s (Joins index i) runs h = fit_joined limits s (join_output s index i) index i (last_place s.attempts index i) (at_last s.attempts index i) h
fit_step limits scene s (Turns index i) runs h = fit_turns limits s index i (node_at s.def.nodes index) h
fit_step limits scene s Waits runs h = tt
fit_step limits scene s AllDone runs h = tt

-- ---- all rules

fit_done : (limits : Limits) (scene : Scene) (s : Sight) (next : Next) → AreFit s (all_done limits scene s next)
fit_done limits scene s (Schedule index i) = tt
fit_done limits scene s (Joins index i) = tt
fit_done limits scene s (Turns index i) = tt
fit_done limits scene s Waits = tt
fit_done limits scene s AllDone =
    let output = flow_output scene s in
    fits_within limits s (output ∷ []) (End flow.Completed None (Some output) ∷ []) (λ r. (refl, tt))

fit_orphan : (s : Sight) (b : Bool) → AreFit s (if b then Some parent_ended else None)
fit_orphan s true = λ r. (refl, tt)
fit_orphan s false = tt

fit_late : (s : Sight) (b alert : Bool) → AreFit s (if b then Some (ran_too_long alert) else None)
fit_late s true true = λ r. (tt, tt)
fit_late s true false = λ r. (refl, tt)
fit_late s false alert = tt

fit_first : (s : Sight) (x : Option (List Act)) (rest : List (Option (List Act))) → AreFit s x → AreFit s (first_of rest) → AreFit s (first_of (x ∷ rest))
fit_first s None rest p q = q
fit_first s (Some acts) rest p q = p

pub pick_fits : (limits : Limits) (scene : Scene) (s : Sight) → IsSeen s → AreFit s (pick limits scene s)
unfolding pick
pick_fits limits scene s h = by_status (is_running s.status) refl where
  by_status : (b : Bool) → is_running s.status ≡ b → AreFit s (if b then first_of (rules limits scene s) else None)
  by_status false runs = tt
  by_status true runs =
      fit_first s (r0 scene) _ (fit_orphan s scene.orphan)
      (fit_first s (r1 s) _ (fit_late s s.over_time s.def.alert_only)
      (fit_first s (r2 s) _ (fit_map s (first_due s.due) _ (λ q. past_due s q.0 q.1) (due_at s.attempts s.due h.dues) (λ q k. fits_past_due s q.0 q.1 k.0))
      (fit_first s (r3 limits scene s) _ (fit_map s (first_some s.ended) _ (λ q. child_ended limits scene q.0 q.1) (end_at s.attempts s.ended h.ends) (λ q k. fits_child limits scene s q.0 q.1 k))
      (fit_first s (r4 limits s) _ (fit_map s (first_lost s.attempts) _ (λ q. lost limits s q.0 q.1) (lost_at s.attempts) (λ q k. fits_lost limits s q.0 q.1 runs k.0 k.1))
      (fit_first s (r5 limits scene s) _ (fit_step limits scene s (next_step s.attempts s.def.nodes) runs (open_step s.attempts s.def.nodes))
      (fit_first s (r6 limits scene s) [] (fit_done limits scene s (next_step s.attempts s.def.nodes)) tt))))))

-- ---- the acts of a rule, made of a flow

fits_allowed : (s : Sight) (r : Room) (acts : List Act) → Fits s acts → CanDo s (allowed r acts)
fits_allowed s r acts h = by_spent (r.spent && list_any is_add acts) where
  by_spent : (b : Bool) → CanDo s (if b then fails (codes "numbers spent") None else map (fitted r) acts)
  by_spent true = (refl, tt)
  by_spent false = h r

can_do_made : (e : ℕ) (cs : List ChildState) (acts : List Act) (t : Turn) → AllBelow t.next_flow cs → CanDo (sight e cs t.flow) acts → CanMakeAll e acts t
unfolding sight
can_do_made e cs [] t below h = tt
can_do_made e cs (act ∷ rest) t below h = (
  h.0,
  can_do_made e cs rest (make e act t) (below_mono t.next_flow (make e act t).next_flow cs (let k = made_flows e (act ∷ []) t in omega (arith, k)) below)
      (subst (λ (s : Sight). CanDo s rest) (sym (sight_make e cs act t below)) h.1),
)

-- what the first rule that applies wants done can be made
pub chosen_fits : (limits : Limits) (scene : Scene) (kept e : ℕ) (t : Turn) (acts : List Act) → AllBelow t.next_flow scene.children
    → choose limits scene kept e t ≡ Some acts → CanMakeAll e acts t
chosen_fits limits scene kept e t acts below is =
    by_pick (pick limits scene (sight e scene.children t.flow)) (pick_fits limits scene (sight e scene.children t.flow) (is_seen e scene.children t.flow)) is where
      by_pick : (o : Option (List Act)) → AreFit (sight e scene.children t.flow) o → option_map (allowed (room limits kept t)) o ≡ Some acts → CanMakeAll e acts t
      by_pick None h k = cc
      by_pick (Some wish) h k =
          let same : allowed (room limits kept t) wish ≡ acts = cc in
          can_do_made e scene.children acts t below
          (subst (CanDo (sight e scene.children t.flow)) same (fits_allowed (sight e scene.children t.flow) (room limits kept t) wish h))

pub record_made_all : (e : ℕ) (acts : List Act) (t : Turn) → IsMoment e → IsRecord t.flow → CanMakeAll e acts t → IsRecord (made e acts t).flow
record_made_all e [] t moment h k = h
record_made_all e (act ∷ rest) t moment h k = record_made_all e rest (make e act t) moment (record_made e act t moment h k.0) k.1

after_kept : (limits : Limits) (scene : Scene) (kept e n : ℕ) (t : Turn) → AllBelow t.next_flow scene.children → IsMoment e → IsRecord t.flow
    → IsRecord (after limits scene kept e n t).flow
unfolding rule
after_kept limits scene kept e zero t below moment h = h
after_kept limits scene kept e (suc n) t below moment h =
    by_choice (choose limits scene kept e t) refl (λ u b k. after_kept limits scene kept e n u b moment k) where
      by_choice : (o : Option (List Act)) → choose limits scene kept e t ≡ o
          → ((u : Turn) → AllBelow u.next_flow scene.children → IsRecord u.flow → IsRecord (after limits scene kept e n u).flow)
          → IsRecord (option_map_or (λ next. after limits scene kept e n next) (option_map (λ acts. made e acts t) o) t).flow
      by_choice None is on = h
      by_choice (Some acts) is on =
          on (made e acts t) (below_mono t.next_flow (made e acts t).next_flow scene.children (let k = made_flows e acts t in omega (arith, k)) below)
          (record_made_all e acts t moment h (chosen_fits limits scene kept e t acts below is))

pub decided_kept : (limits : Limits) (scene : Scene) (kept e : ℕ) (t : Turn) → AllBelow t.next_flow scene.children → IsMoment e → IsRecord t.flow
    → IsRecord (decide limits scene kept e t).flow
unfolding decide
decided_kept limits scene kept e t below moment h = after_kept limits scene kept e (rules_at_most limits t) t below moment h
