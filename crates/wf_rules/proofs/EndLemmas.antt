-- A decision ends: each rule lowers a number that is at most 6 * L + 2.
use Rattle.std.proofs.Common.{◌≡◌, ℕ, ℤ, pos, zero, suc, ◌+◌, ◌*◌, ◌<◌, ◌≤◌, Bool, true, false, if◌then◌else◌, ◌&&◌, ◌||◌, ◌==◌, not, nat_le, nat_lt, List, [], ◌∷◌, ◌++◌, map, filter, length, slice_get, Option, None, Some, codes, refl, sym, ◌∙◌, ap, subst, arith}
use Rattle.std.proofs.lemmas.Bool.Decides.{nat_tests}
use Rattle.std.proofs.lemmas.List.{length-map, length-append}
use Rattle.std.proofs.lemmas.Bool.{leb-false}
use Rattle.std.specs.Prelude.{option_map, option_and_then}
use Rattle.std.specs.List.{find, list_any}
use Rattle.std.specs.Option.{option_map_or}
use Rattle.wf_doc.specs.declared.doc.Doc.{Doc}
use Rattle.wf_doc.specs.declared.doc.Doc.TheOpen.{Doc-F}
use Rattle.wf_doc.specs.declared.doc.Doc.TheViews.{out-Doc}
use Rattle.wf_doc.specs.Doc.{as_text, field}
use Rattle.wf_names.specs.declared.statuses.TaskStatus.{TaskStatus}
use Rattle.wf_names.specs.declared.statuses.TaskStatus.TheVariants as task
use Rattle.wf_names.specs.declared.statuses.FlowStatus.{FlowStatus}
use Rattle.wf_names.specs.declared.statuses.FlowStatus.TheVariants as flow
use Rattle.wf_names.specs.TaskStatus.{task_is_open, task_is_successful}
use Rattle.wf_wire.specs.declared.limits.Limits.{Limits}
use Rattle.wf_rules.specs.declared.acting.Act.{Act}
use Rattle.wf_rules.specs.declared.acting.Act.TheVariants.{Add, Close, Note, Forgive, Turn as TurnOn, Variables, NoteFlow, End}
use Rattle.wf_rules.specs.declared.acting.Alert.{Alert}
use Rattle.wf_rules.specs.declared.acting.Alert.TheVariants.{Poll as PollAlert, Total as TotalAlert}
use Rattle.wf_rules.specs.declared.acting.Begin.TheVariants.{Held, Over}
use Rattle.wf_rules.specs.declared.acting.Child.{Child}
use Rattle.wf_rules.specs.declared.acting.Child.TheVariants.{Nothing, Flow as NewFlow, TooLarge, Refused}
use Rattle.wf_rules.specs.declared.acting.NewAttempt.{NewAttempt}
use Rattle.wf_rules.specs.declared.acting.Outcome.{Outcome}
use Rattle.wf_rules.specs.declared.acting.Outcome.TheVariants.{Completed, Failed, FailedWithTerminalError, TimedOut}
use Rattle.wf_machine.specs.declared.definition.Cases.{Cases'}
use Rattle.wf_machine.specs.declared.definition.Count.{Count}
use Rattle.wf_machine.specs.declared.definition.FlowDef.{FlowDef}
use Rattle.wf_machine.specs.declared.definition.Node.{Node}
use Rattle.wf_machine.specs.declared.definition.NodeKind.{NodeKind, Simple, Switch, Fork', Join, Loop', SubFlow, SetVariable, Wait, Human, Terminate}
use Rattle.wf_machine.specs.declared.definition.TaskDef.{TaskDef}
use Rattle.wf_machine.specs.declared.sight.ChildState.{ChildState}
use Rattle.wf_machine.specs.declared.timed.Cause.{Cause}
use Rattle.wf_machine.specs.declared.timed.Cause.TheVariants.{Poll, Response, Total, Wait as WaitDue}
use Rattle.wf_machine.specs.declared.timed.TaskPolicy.{TaskPolicy}
use Rattle.wf_machine.specs.declared.timed.TaskPolicy.TheVariants.{Retry, TimeOutWf, AlertOnly}
use Rattle.wf_machine.specs.declared.timed.Timing.{Timing}
use Rattle.wf_machine.specs.declared.walking.Mark.TheVariants.{Open, Done, Lost}
use Rattle.wf_machine.specs.declared.walking.Next.{Next}
use Rattle.wf_machine.specs.declared.walking.Next.TheVariants.{Schedule, Join as Joins, Turn as Turns, Waits, Done as AllDone}
use Rattle.wf_time.specs.Durations.{duration}
use Rattle.wf_time.specs.Deadlines.{due_after, due_from, due_by_timing, due_by_wait}
use Rattle.wf_machine.specs.State.{Attempt, Flow, empty_table}
use Rattle.wf_machine.specs.Sight.{Seen, seen}
use Rattle.wf_rules.specs.Sight.{Sight, Scene, sight, clocked, is_in_progress, deadlines, has_passed, cause_of, put_in, sorted, due, over_time, child_end}
use Rattle.wf_machine.specs.Marks.{is_of, last_of, mark_of, next_step, node_at, all_nodes}
use Rattle.wf_machine.specs.Records.{is_kind_at, is_simple, is_loop}
use Rattle.wf_machine.specs.Text.{same_text}
use Rattle.wf_expr.specs.Filling.{text_of_any}
use Rattle.wf_machine.specs.Registered.{task_def_named, flow_def_for}
use Rattle.wf_rules.specs.Loops.{heads, LoopsFit}
use Rattle.wf_rules.specs.Outputs.{is_too_large, child_output, choice_output, entries_of, with_all, filled_in, count_of, turns_on, join_output, with_key}
use Rattle.wf_rules.specs.Scheduling.{table_at, fails, within, adding, adding_one, attempt_at, counted_at, loop_at, failed_at, wait_here, wait_at, sub_flow_at, refused_at, child_at, end_named, named_end, end_by, schedule_task, task_at, schedule_kind, schedule}
use Rattle.wf_rules.specs.Acts.{Turn, make, made, at_place, status_of}
use Rattle.wf_rules.specs.Rules.{shift, first_some, first_due, is_lost_status, is_lost, first_lost, last_place, timing_at, policy_of, parent_ended, ran_too_long, timed_out, by_policy, past_due, child_outcome, child_ended, may_retry, retry_of, is_optional, end_for, lost_reason, unretried, lost, joined, turned_on, turn_of_loop, turn_at_place, take_step, all_done, flow_output, r0, r1, r2, r3, r4, r5, r6, first_of, rules, is_running, pick, Room, room, is_add, store_full, fitted_child, fitted, allowed, choose, rule, after, rules_at_most, decide}
use Rattle.wf_rules.specs.Plans.{AllBelow}
use Rattle.wf_rules.proofs.SightLemmas.{shown, but, seen_closed, seen_forgiven, seen_turned, sight_make}
use Rattle.wf_rules.proofs.PlanLemmas.{below_mono, made_flows}
use Rattle.wf_rules.proofs.LoopLemmas.{Asked, IsTurned, asked_step}
use Rattle.wf_rules.proofs.FallLemmas.{one_if, weight, works, dues, paid, owes, loop_heads, is_loop_of, turns, credits, left_by, left, AtLast, at_last, falls_done, falls_over, falls_noted, falls_note_flow, falls_turned, Lands, falls_added}

abbrev pub shown_all : List Act → Sight → Sight
shown_all [] s = s
shown_all (act ∷ rest) s = shown_all rest (shown act s)

-- the acts leave less to do, whatever room there is
abbrev pub Falls : Limits → Sight → List Act → Type 0
Falls limits s acts = (r : Room) → left limits (shown_all (map (fitted r) acts) s) < left limits s

abbrev Lowers : Limits → Sight → Option (List Act) → Type 0
Lowers limits s None = Unit {0}
Lowers limits s (Some acts) = Falls limits s acts

abbrev pub IfFound : {T : Type 0} → Option T → (T → Type 0) → Type 0
IfFound None P = Unit {0}
IfFound (Some x) P = P x

found_later : {T : Type 0} (o : Option (ℕ × T)) (P Q : ℕ × T → Type 0) → ((x : ℕ × T) → P x → Q (shift x)) → IfFound o P → IfFound (option_map shift o) Q
found_later None P Q f h = tt
found_later (Some x) P Q f h = f x h

lowers_map : {T : Type 0} (limits : Limits) (s : Sight) (o : Option T) (P : T → Type 0) (f : T → List Act) → IfFound o P → ((x : T) → P x → Falls limits s (f x)) → Lowers limits s (option_map f o)
lowers_map limits s None P f h k = tt
lowers_map limits s (Some x) P f h k = k x h

-- ---- ends

falls_end : (limits : Limits) (s : Sight) (st : FlowStatus) (r : Option (List ℕ)) (out : Option Doc) → is_running s.status ≡ true → is_running st ≡ false → Falls limits s (End st r out ∷ [])
falls_end limits s st r out runs over = λ room. falls_done limits s s st r out runs over

falls_fails : (limits : Limits) (s : Sight) (r : List ℕ) (out : Option Doc) → is_running s.status ≡ true → Falls limits s (fails r out)
falls_fails limits s r out runs = falls_end limits s flow.Failed (Some r) out runs refl

falls_by : (limits : Limits) (s : Sight) (b : Bool) (xs ys : List Act) → (b ≡ true → Falls limits s xs) → (b ≡ false → Falls limits s ys) → Falls limits s (if b then xs else ys)
falls_by limits s true xs ys p q = p refl
falls_by limits s false xs ys p q = q refl

falls_within : (limits : Limits) (s : Sight) (docs : List Doc) (acts : List Act) → is_running s.status ≡ true → Falls limits s acts → Falls limits s (within limits docs acts)
falls_within limits s docs acts runs h =
    falls_by limits s (list_any (is_too_large limits) docs) (fails (codes "document limit") (Some empty_table)) acts
    (λ e. falls_fails limits s (codes "document limit") (Some empty_table) runs) (λ e. h)

-- ---- attempts that end

not_open : (o : Outcome) → task_is_open (status_of o) ≡ false
not_open Completed = refl
not_open Failed = refl
not_open FailedWithTerminalError = refl
not_open TimedOut = refl

open_weight : (x y : TaskStatus) → task_is_open x ≡ true → task_is_open y ≡ false → weight y < weight x
open_weight x y opened over = rw (opened, over) (by_success (task_is_successful y)) where
  by_success : (b : Bool) → (if b then 0 else 1) < 2
  by_success true = omega arith
  by_success false = omega arith

-- an open attempt at the place
abbrev pub OpenAt : List Seen → ℕ → Type 0
OpenAt xs p = (x : Seen) × (slice_get xs p ≡ Some x) × (task_is_open x.status ≡ true)

falls_close : (limits : Limits) (s : Sight) (p : ℕ) (o : Outcome) (r : Option (List ℕ)) (out : Option Doc) → is_running s.status ≡ true → OpenAt s.attempts p
    → left limits (shown (Close p o r out) s) < left limits s
falls_close limits s p o r out runs h =
    falls_over limits s p h.0 (seen_closed o r out) runs h.1 (open_weight h.0.status (status_of o) h.2 (not_open o)) (λ y. refl)

-- ---- r2

abbrev pub DuesOpen : List Seen → List (List Cause) → Type 0
DuesOpen [] [] = Unit {0}
DuesOpen [] (d ∷ ds) = false ≡ true
DuesOpen (x ∷ xs) [] = Unit {0}
DuesOpen (x ∷ xs) (d ∷ ds) = (task_is_open x.status ≡ false → d ≡ []) × DuesOpen xs ds

kept_fewer : {T : Type 0} (q : T → Bool) (ds : List T) → length (filter q ds) ≤ length ds
kept_fewer q [] = omega arith
kept_fewer q (d ∷ ds) = by_test (q d) (kept_fewer q ds) where
  by_test : (b : Bool) → length (filter q ds) ≤ length ds → length (if b then d ∷ filter q ds else filter q ds) ≤ suc (length ds)
  by_test true h = omega (arith, h)
  by_test false h = omega (arith, h)

abbrev pub DueAt : List Seen → List (List Cause) → ℕ × Cause → Type 0
DueAt xs ds q = OpenAt xs q.0 × ((alert : Alert) → but alert q.1 ≡ false → dues (at_place q.0 (filter (but alert)) ds) < dues ds)

pub due_at : (xs : List Seen) (ds : List (List Cause)) → DuesOpen xs ds → IfFound (first_due ds) (DueAt xs ds)
due_at [] [] h = tt
due_at [] (d ∷ ds) h = cc
due_at (x ∷ xs) [] h = tt
due_at (x ∷ xs) ((c ∷ more) ∷ ds) h =
    (opened (task_is_open x.status) refl, λ alert e. (let k = kept_fewer (but alert) more in rw e (omega (arith, k)))) where
      opened : (b : Bool) → task_is_open x.status ≡ b → OpenAt (x ∷ xs) 0
      opened true e = (x, refl, e)
      opened false e = let no = h.0 e in cc
due_at (x ∷ xs) ([] ∷ ds) h =
    found_later (first_due ds) (DueAt xs ds) (DueAt (x ∷ xs) ([] ∷ ds))
    (λ q k. ((k.0.0, k.0.1, k.0.2), λ alert e. (let l = k.1 alert e in omega (arith, l)))) (due_at xs ds h.1)

falls_policy : (limits : Limits) (s : Sight) (p : ℕ) (alert : Alert) (r : List ℕ) (policy : TaskPolicy) → is_running s.status ≡ true → OpenAt s.attempts p
    → dues (at_place p (filter (but alert)) s.due) < dues s.due → Falls limits s (by_policy p alert r policy)
falls_policy limits s p alert r Retry runs h k = λ place. falls_close limits s p TimedOut (Some r) None runs h
falls_policy limits s p alert r TimeOutWf runs h k = λ place. falls_done limits s (shown (timed_out p r) s) flow.TimedOut (Some r) None runs refl
falls_policy limits s p alert r AlertOnly runs h k = λ place. falls_noted limits s p alert r runs k

falls_past_due : (limits : Limits) (s : Sight) (p : ℕ) (c : Cause) → is_running s.status ≡ true → DueAt s.attempts s.due (p, c) → Falls limits s (past_due s p c)
falls_past_due limits s p Poll runs h = falls_policy limits s p PollAlert (codes "poll timeout") (policy_of (timing_at p s.attempts)) runs h.0 (h.1 PollAlert refl)
falls_past_due limits s p Response runs h = λ r. falls_close limits s p TimedOut (Some (codes "response timeout")) None runs h.0
falls_past_due limits s p Total runs h = falls_policy limits s p TotalAlert (codes "total timeout") (policy_of (timing_at p s.attempts)) runs h.0 (h.1 TotalAlert refl)
falls_past_due limits s p WaitDue runs h = λ r. falls_close limits s p Completed None None runs h.0

-- ---- r3

abbrev pub EndsOpen : List Seen → List (Option ChildState) → Type 0
EndsOpen [] [] = Unit {0}
EndsOpen [] (d ∷ ds) = false ≡ true
EndsOpen (x ∷ xs) [] = Unit {0}
EndsOpen (x ∷ xs) (d ∷ ds) = (task_is_open x.status ≡ false → d ≡ None) × EndsOpen xs ds

pub end_at : (xs : List Seen) (ds : List (Option ChildState)) → EndsOpen xs ds → IfFound (first_some ds) (λ q. OpenAt xs q.0)
end_at [] [] h = tt
end_at [] (d ∷ ds) h = cc
end_at (x ∷ xs) [] h = tt
end_at (x ∷ xs) (Some c ∷ ds) h = opened (task_is_open x.status) refl where
  opened : (b : Bool) → task_is_open x.status ≡ b → OpenAt (x ∷ xs) 0
  opened true e = (x, refl, e)
  opened false e = let none = h.0 e in cc
end_at (x ∷ xs) (None ∷ ds) h = found_later (first_some ds) (λ q. OpenAt xs q.0) (λ q. OpenAt (x ∷ xs) q.0) (λ q k. (k.0, k.1, k.2)) (end_at xs ds h.1)

falls_child : (limits : Limits) (scene : Scene) (s : Sight) (p : ℕ) (c : ChildState) → is_running s.status ≡ true → OpenAt s.attempts p → Falls limits s (child_ended limits scene p c)
falls_child limits scene s p c runs h =
    let output = child_output scene.mark c in
    falls_within limits s (output ∷ []) (Close p (child_outcome c.status) (Some c.reason) (Some output) ∷ []) runs
    (λ r. falls_close limits s p (child_outcome c.status) (Some c.reason) (Some output) runs h)

-- ---- attempts that are added

kept_child : (r : Room) (n : NewAttempt) (child : Child) → ((fitted_child r n child).node ≡ n.node) × ((fitted_child r n child).iteration ≡ n.iteration)
kept_child r n Nothing = (refl, refl)
kept_child r n Refused = (refl, refl)
kept_child r n TooLarge = by_room r.full where
  by_room : (b : Bool) → ((if b then store_full n else n).node ≡ n.node) × ((if b then store_full n else n).iteration ≡ n.iteration)
  by_room true = (refl, refl)
  by_room false = (refl, refl)
kept_child r n (NewFlow def input) = by_room (r.full || r.unnumbered) where
  by_room : (b : Bool) → ((if b then store_full n else n).node ≡ n.node) × ((if b then store_full n else n).iteration ≡ n.iteration)
  by_room true = (refl, refl)
  by_room false = (refl, refl)

lands_fitted : (s : Sight) (r : Room) (n : NewAttempt) → Lands s n → Lands s (fitted_child r n n.child)
lands_fitted s r n h =
    let kept = kept_child r n n.child in
    λ l o e. h l o (ap (λ k. (k == l) && (n.iteration == 0) && not false) (sym kept.0) ∙ ap (λ k. ((fitted_child r n n.child).node == l) && (k == 0) && not false) (sym kept.1) ∙ e)

falls_fitted : (limits : Limits) (s : Sight) (r : Room) (n : NewAttempt) → is_running s.status ≡ true → length s.attempts < limits.attempts → Lands s n
    → left limits (shown (Add (fitted_child r n n.child)) s) < left limits s
falls_fitted limits s r n runs lt h = falls_added limits s (fitted_child r n n.child) runs lt (lands_fitted s r n h)

falls_limit : (limits : Limits) (s : Sight) (acts : List Act) → is_running s.status ≡ true → (length s.attempts < limits.attempts → Falls limits s acts)
    → Falls limits s (if nat_le limits.attempts (length s.attempts) then fails (codes "attempt limit") None else acts)
falls_limit limits s acts runs h =
    falls_by limits s (nat_le limits.attempts (length s.attempts)) (fails (codes "attempt limit") None) acts
    (λ e. falls_fails limits s (codes "attempt limit") None runs)
    (λ e. h (leb-false limits.attempts (length s.attempts) e))

falls_adding : (limits : Limits) (s : Sight) (n : NewAttempt) → is_running s.status ≡ true → Lands s n → Falls limits s (adding_one limits s n)
falls_adding limits s n runs h =
    falls_limit limits s (within limits (n.input ∷ n.output ∷ []) (Add n ∷ [])) runs
    (λ lt. falls_within limits s (n.input ∷ n.output ∷ []) (Add n ∷ []) runs (λ r. falls_fitted limits s r n runs lt h))

falls_variables : (limits : Limits) (s : Sight) (v : Doc) (n : NewAttempt) → is_running s.status ≡ true → Lands s n → Falls limits s (adding limits s (v ∷ []) (Variables v ∷ []) n [])
falls_variables limits s v n runs h =
    falls_limit limits s (within limits (n.input ∷ n.output ∷ v ∷ []) (Variables v ∷ Add n ∷ [])) runs
    (λ lt. falls_within limits s (n.input ∷ n.output ∷ v ∷ []) (Variables v ∷ Add n ∷ []) runs
    (λ r. falls_fitted limits (record s { variables = v }) r n runs lt h))

abbrev EndsOver : Option FlowStatus → Type 0
EndsOver None = Unit {0}
EndsOver (Some status) = is_running status ≡ false

ends_if : (b : Bool) (x y : Option FlowStatus) → EndsOver x → EndsOver y → EndsOver (if b then x else y)
ends_if true x y p q = p
ends_if false x y p q = q

ends_named : (text : List ℕ) → EndsOver (end_named text)
ends_named text =
    let last : Option FlowStatus = if same_text text (codes "TERMINATED") then Some flow.Terminated else None in
    let more : Option FlowStatus = if same_text text (codes "FAILED") then Some flow.Failed else last in
    ends_if (same_text text (codes "COMPLETED")) (Some flow.Completed) more refl
    (ends_if (same_text text (codes "FAILED")) (Some flow.Failed) last refl
    (ends_if (same_text text (codes "TERMINATED")) (Some flow.Terminated) None refl tt))

ends_input : (input : Doc) → EndsOver (named_end input)
ends_input input = by_field (field (codes "terminationStatus") input) where
  by_text : (o : Option (List ℕ)) → EndsOver (option_map_or end_named o None)
  by_text None = tt
  by_text (Some text) = ends_named text

  by_field : (o : Option Doc) → EndsOver (option_map_or (λ d. option_map_or end_named (as_text d) None) o None)
  by_field None = tt
  by_field (Some d) = by_text (as_text d)

falls_ending : (limits : Limits) (s : Sight) (n : NewAttempt) (input : Doc) (status : Option FlowStatus) → is_running s.status ≡ true → EndsOver status → Falls limits s (Add n ∷ end_by input status)
falls_ending limits s n input None runs h = λ r. falls_done limits s (shown (Add (fitted_child r n n.child)) s) flow.Failed (Some (codes "bad terminationStatus")) None runs refl
falls_ending limits s n input (Some status) runs h = λ r. falls_done limits s (shown (Add (fitted_child r n n.child)) s) status (Some (text_of_any (field (codes "terminationReason") input))) (Some (table_at (codes "workflowOutput") input)) runs h

-- ---- r4

abbrev pub LostAt : List Seen → ℕ × Seen → Type 0
LostAt xs q = (slice_get xs q.0 ≡ Some q.1) × (is_lost_status q.1.status ≡ true)

and_right : (b c d : Bool) → (b && c && d) ≡ true → c ≡ true
and_right true true d h = refl
and_right true false d h = cc
and_right false c d h = cc

pub lost_at : (xs : List Seen) → IfFound (first_lost xs) (LostAt xs)
lost_at [] = tt
lost_at (a ∷ rest) = by_lost (is_lost a rest) refl (lost_at rest) where
  by_lost : (b : Bool) → is_lost a rest ≡ b → IfFound (first_lost rest) (LostAt rest) → IfFound (if b then Some (zero, a) else option_map shift (first_lost rest)) (LostAt (a ∷ rest))
  by_lost true e on = (refl, and_right (not a.superseded) (is_lost_status a.status) (not (list_any (is_of a.node a.iteration) rest)) e)
  by_lost false e on = found_later (first_lost rest) (LostAt rest) (LostAt (a ∷ rest)) (λ q k. (k.0, k.1)) on

lost_weight : (status : TaskStatus) → is_lost_status status ≡ true → weight task.CompletedWithErrors < weight status
lost_weight status h = by_tests (task_is_open status) (task_is_successful status) h where
  by_tests : (b c : Bool) → (not b && not c) ≡ true → 0 < (if b then 2 else if c then 0 else 1)
  by_tests true c h = omega arith
  by_tests false true h = cc
  by_tests false false h = omega arith

over_for : (status : TaskStatus) → is_running (end_for status) ≡ false
over_for task.Scheduled = refl
over_for task.InProgress = refl
over_for task.Completed = refl
over_for task.CompletedWithErrors = refl
over_for task.Failed = refl
over_for task.FailedWithTerminalError = refl
over_for task.TimedOut = refl
over_for task.Canceled = refl
over_for task.Skipped = refl

falls_unretried : (limits : Limits) (s : Sight) (p : ℕ) (a : Seen) → is_running s.status ≡ true → LostAt s.attempts (p, a) → Falls limits s (unretried s p a)
falls_unretried limits s p a runs h =
    falls_by limits s (is_optional s a.node) (Forgive p ∷ []) (End (end_for a.status) (Some (lost_reason s a a.reason)) None ∷ [])
    (λ e room. falls_over limits s p a seen_forgiven runs h.0 (lost_weight a.status h.1) (λ y. refl))
    (λ e. falls_end limits s (end_for a.status) (Some (lost_reason s a a.reason)) None runs (over_for a.status))

simple_no_loop : (kind : NodeKind) → is_simple kind ≡ true → is_loop kind ≡ false
simple_no_loop Simple h = refl
simple_no_loop (Switch cases) h = cc
simple_no_loop (Fork' s branches) h = cc
simple_no_loop (Join references) h = cc
simple_no_loop (Loop' count s body) h = cc
simple_no_loop (SubFlow name version) h = cc
simple_no_loop SetVariable h = cc
simple_no_loop Wait h = cc
simple_no_loop Human h = cc
simple_no_loop Terminate h = cc

simple_at : (def : FlowDef) (node : ℕ) → is_kind_at is_simple def node ≡ true → is_kind_at is_loop def node ≡ true → false ≡ true
simple_at def node h k = by_node (node_at def.nodes node) h k where
  by_node : (o : Option Node) → option_map_or (λ (n : Node). is_simple n.kind) o false ≡ true → option_map_or (λ (n : Node). is_loop n.kind) o false ≡ true → false ≡ true
  by_node None h k = h
  by_node (Some n) h k = sym (simple_no_loop n.kind h) ∙ k

node_lands : (node l iteration : ℕ) (c : Bool) → ((node == l) && (iteration == 0) && c) ≡ true → node ≡ l
node_lands node l iteration c h = by_test (node == l) (iteration == 0) refl h where
  by_test : (b d : Bool) → (node == l) ≡ b → (b && d && c) ≡ true → node ≡ l
  by_test true d e h = grind (arith, nat_tests)
  by_test false d e h = cc

iteration_lands : (node l iteration : ℕ) (c : Bool) → ((node == l) && (iteration == 0) && c) ≡ true → iteration ≡ 0
iteration_lands node l iteration c h = by_test (node == l) (iteration == 0) refl h where
  by_test : (b d : Bool) → (iteration == 0) ≡ d → (b && d && c) ≡ true → iteration ≡ 0
  by_test true true e h = grind (arith, nat_tests)
  by_test true false e h = cc
  by_test false d e h = cc

lands_retry : (s : Sight) (p : ℕ) (a : Seen) (timing : Timing) → is_kind_at is_simple s.def a.node ≡ true → Lands s (retry_of p a timing)
lands_retry s p a timing simple = λ l o e.
    (let same : a.node ≡ l = node_lands a.node l a.iteration (not false) e in
    let no = simple_at s.def l (subst (λ k. is_kind_at is_simple s.def k ≡ true) same simple) o in absurd cc)

falls_lost : (limits : Limits) (s : Sight) (p : ℕ) (a : Seen) → is_running s.status ≡ true → LostAt s.attempts (p, a) → Falls limits s (lost limits s p a)
falls_lost limits s p a runs h = by_kind (is_kind_at is_simple s.def a.node) (may_retry a.status) refl where
  by_timing : (o : Option Timing) → is_kind_at is_simple s.def a.node ≡ true → Falls limits s (option_map_or (λ timing. adding_one limits s (retry_of p a timing)) o (unretried s p a))
  by_timing None e = falls_unretried limits s p a runs h
  by_timing (Some timing) e = falls_adding limits s (retry_of p a timing) runs (lands_retry s p a timing e)

  by_kind : (b c : Bool) → is_kind_at is_simple s.def a.node ≡ b
      → Falls limits s (option_map_or (λ timing. adding_one limits s (retry_of p a timing))
      (if b && c then option_and_then (λ (t : Timing). if nat_lt a.retry t.retry_count then Some t else None) a.timing else None) (unretried s p a))
  by_kind true true e = by_timing (option_and_then (λ (t : Timing). if nat_lt a.retry t.retry_count then Some t else None) a.timing) e
  by_kind true false e = falls_unretried limits s p a runs h
  by_kind false c e = falls_unretried limits s p a runs h

-- ---- r5: scheduling

abbrev IsAt : ℕ → ℕ → NewAttempt → Type 0
IsAt index i n = (n.node ≡ index) × (n.iteration ≡ i)

lands_at : (s : Sight) (index i : ℕ) (n : NewAttempt) → IsAt index i n → last_of s.attempts index i ≡ None → Lands s n
lands_at s index i n at none = λ l o e.
    (let one : n.node ≡ l = node_lands n.node l n.iteration (not false) e in
    let two : n.iteration ≡ 0 = iteration_lands n.node l n.iteration (not false) e in
    let node : index ≡ l = sym at.0 ∙ one in
    let iteration : i ≡ 0 = sym at.1 ∙ two in
    rw (← node, ← iteration) none)

counted_is : (node : Node) (i : ℕ) (count : Count) (input : Doc) → IsAt node.index i (counted_at node i count input)
counted_is node i count input = by_count (count_of count input) where
  by_count : (o : Option ℤ) → IsAt node.index i (option_map_or (λ n. loop_at node i input) o (failed_at node i (codes "bad loop count") input))
  by_count None = (refl, refl)
  by_count (Some n) = (refl, refl)

wait_here_is : (node : Node) (i : ℕ) (input : Doc) (d : Doc-F Doc) → IsAt node.index i (wait_here node i input d)
wait_here_is node i input Doc-F.Null = (refl, refl)
wait_here_is node i input (Doc-F.Bool b) = (refl, refl)
wait_here_is node i input (Doc-F.Int z) = (refl, refl)
wait_here_is node i input (Doc-F.List ds) = (refl, refl)
wait_here_is node i input (Doc-F.Table es) = (refl, refl)
wait_here_is node i input (Doc-F.Text []) = (refl, refl)
wait_here_is node i input (Doc-F.Text (x ∷ xs)) = by_seconds (duration (x ∷ xs)) where
  by_seconds : (o : Option ℕ) → IsAt node.index i (option_map_or (λ seconds. attempt_at node i (Held (Some seconds)) input) o (failed_at node i (codes "bad duration") input))
  by_seconds None = (refl, refl)
  by_seconds (Some n) = (refl, refl)

wait_is : (node : Node) (i : ℕ) (input : Doc) → IsAt node.index i (wait_at node i input)
wait_is node i input = by_field (field (codes "duration") input) where
  by_field : (o : Option Doc) → IsAt node.index i (option_map_or (λ d. wait_here node i input (out-Doc d)) o (attempt_at node i (Held None) input))
  by_field None = (refl, refl)
  by_field (Some d) = wait_here_is node i input (out-Doc d)

is_at_if : (index i : ℕ) (b : Bool) (x y : NewAttempt) → IsAt index i x → IsAt index i y → IsAt index i (if b then x else y)
is_at_if index i true x y p q = p
is_at_if index i false x y p q = q

sub_flow_is : (limits : Limits) (s : Sight) (node : Node) (i : ℕ) (name : List ℕ) (def : Option FlowDef) (input : Doc) → IsAt node.index i (sub_flow_at limits s node i name def input)
sub_flow_is limits s node i name None input = (refl, refl)
sub_flow_is limits s node i name (Some def) input =
    is_at_if node.index i (nat_le limits.nesting s.depth) (refused_at node i (codes "sub-workflow depth") input) (child_at limits node i def input) (refl, refl)
    (is_at_if node.index i (is_too_large limits _) _ _ (refl, refl) (refl, refl))

falls_new : (limits : Limits) (s : Sight) (index i : ℕ) (n : NewAttempt) → is_running s.status ≡ true → IsAt index i n → last_of s.attempts index i ≡ None → Falls limits s (adding_one limits s n)
falls_new limits s index i n runs at h = falls_adding limits s n runs (lands_at s index i n at h)

falls_task : (limits : Limits) (s : Sight) (node : Node) (i : ℕ) (def : Option TaskDef) (input : Doc) → is_running s.status ≡ true → last_of s.attempts node.index i ≡ None
    → Falls limits s (schedule_task limits s node i def input)
falls_task limits s node i None input runs h = falls_fails limits s (codes "no task definition " ++ node.name) None runs
falls_task limits s node i (Some def) input runs h = falls_new limits s node.index i (task_at node i def input) runs (refl, refl) h

falls_kind : (limits : Limits) (scene : Scene) (s : Sight) (node : Node) (i : ℕ) (kind : NodeKind) (input : Doc) → is_running s.status ≡ true → last_of s.attempts node.index i ≡ None
    → Falls limits s (schedule_kind limits scene s node i kind input)
falls_kind limits scene s node i Simple input runs h = falls_task limits s node i (task_def_named node.name scene.task_defs) input runs h
falls_kind limits scene s node i (Switch (Cases' param n cases m nodes)) input runs h =
    falls_new limits s node.index i (record (attempt_at node i (Over Completed) input) { output = choice_output (text_of_any (field param input)) }) runs (refl, refl) h
falls_kind limits scene s node i (Fork' n branches) input runs h = falls_new limits s node.index i (attempt_at node i (Over Completed) input) runs (refl, refl) h
falls_kind limits scene s node i (Join references) input runs h = falls_new limits s node.index i (attempt_at node i (Held None) input) runs (refl, refl) h
falls_kind limits scene s node i (Loop' count n body) input runs h = falls_new limits s node.index i (counted_at node i count input) runs (counted_is node i count input) h
falls_kind limits scene s node i (SubFlow name version) input runs h =
    (let def = flow_def_for name version scene.flow_defs in
    falls_new limits s node.index i (sub_flow_at limits s node i name def input) runs (sub_flow_is limits s node i name def input) h)
falls_kind limits scene s node i SetVariable input runs h =
    (let n = attempt_at node i (Over Completed) input in
    falls_variables limits s (with_all (entries_of input) s.variables) n runs (lands_at s node.index i n (refl, refl) h))
falls_kind limits scene s node i Wait input runs h = falls_new limits s node.index i (wait_at node i input) runs (wait_is node i input) h
falls_kind limits scene s node i Human input runs h = falls_new limits s node.index i (attempt_at node i (Held None) input) runs (refl, refl) h
falls_kind limits scene s node i Terminate input runs h =
    (let n = attempt_at node i (Over Completed) input in
    let acts = Add n ∷ end_by input (named_end input) in
    falls_limit limits s (within limits (n.input ∷ n.output ∷ []) acts) runs
    (λ lt. falls_within limits s (n.input ∷ n.output ∷ []) acts runs (falls_ending limits s n input (named_end input) runs (ends_input input))))

found_fits : {T : Type 0} (p : T → Bool) (xs : List T) (x : T) → find p xs ≡ Some x → p x ≡ true
found_fits p [] x h = cc
found_fits p (y ∷ ys) x h = by_test (p y) refl h (λ k. found_fits p ys x k) where
  by_test : (b : Bool) → p y ≡ b → (if b then Some y else find p ys) ≡ Some x → (find p ys ≡ Some x → p x ≡ true) → p x ≡ true
  by_test true e k on = let same : y ≡ x = cc in subst (λ z. p z ≡ true) same e
  by_test false e k on = on k

pub node_index : (nodes : List Node) (index : ℕ) (n : Node) → node_at nodes index ≡ Some n → n.index ≡ index
unfolding node_at
node_index nodes index n h =
    let fits : (n.index == index) ≡ true = found_fits (λ (m : Node). m.index == index) (all_nodes nodes) n h in
    grind (arith, nat_tests)

lowers_schedule : (limits : Limits) (scene : Scene) (s : Sight) (index i : ℕ) (o : Option Node) → node_at s.def.nodes index ≡ o → is_running s.status ≡ true
    → last_of s.attempts index i ≡ None → Lowers limits s (option_map (λ (n : Node). schedule limits scene s n i) o)
lowers_schedule limits scene s index i None is runs h = tt
lowers_schedule limits scene s index i (Some n) is runs h =
    falls_kind limits scene s n i n.kind (filled_in scene s n.input) runs (subst (λ k. last_of s.attempts k i ≡ None) (sym (node_index s.def.nodes index n is)) h)

-- ---- r5: JOIN and DO_WHILE

pub open_mark : (x : Seen) → mark_of (Some x) ≡ Open → task_is_open x.status ≡ true
open_mark x h = by_tests (task_is_open x.status) (task_is_successful x.status) h where
  by_tests : (b c : Bool) → (if b then Open else if c then Done else Lost) ≡ Open → b ≡ true
  by_tests true c h = refl
  by_tests false true h = cc
  by_tests false false h = cc

falls_joined : (limits : Limits) (s : Sight) (output : Doc) (p : ℕ) → is_running s.status ≡ true → OpenAt s.attempts p → Falls limits s (joined limits output p)
falls_joined limits s output p runs h =
    falls_within limits s (output ∷ []) (Close p Completed None (Some output) ∷ []) runs (λ r. falls_close limits s p Completed None (Some output) runs h)

lowers_joined : (limits : Limits) (s : Sight) (output : Doc) (index i : ℕ) (o : Option ℕ) → AtLast s.attempts index i o → is_running s.status ≡ true
    → mark_of (last_of s.attempts index i) ≡ Open → Lowers limits s (option_map (joined limits output) o)
lowers_joined limits s output index i None at runs h = tt
lowers_joined limits s output index i (Some p) at runs h =
    falls_joined limits s output p runs (at.0, at.1, open_mark at.0 (ap mark_of (sym (at.2)) ∙ h))

falls_turn : (limits : Limits) (s : Sight) (index p : ℕ) (x : Seen) (output : Doc) (on : Bool) → is_running s.status ≡ true → LoopsFit s.def.nodes
    → slice_get s.attempts p ≡ Some x → last_of s.attempts index 0 ≡ Some x → ((c : Seen → Seen) → ((y : Seen) → is_of index 0 (c y) ≡ is_of index 0 y) → last_of (at_place p c s.attempts) index 0 ≡ Some (c x))
    → task_is_open x.status ≡ true → is_loop_of s index ≡ true → IsTurned (loop_heads s) s.attempts index → Falls limits s (turned_on limits p x.turn output on)
falls_turn limits s index p x output true runs fit there last changed opened ok turned =
    let more = with_key (codes "iteration") (Doc.Int (pos (x.turn + 1))) output in
    falls_within limits s (more ∷ []) (TurnOn p more (x.turn + 1) ∷ []) runs
    (λ r. falls_turned limits s p index turned.first x more runs there last (changed (seen_turned more (x.turn + 1)) (λ y. refl)) ok turned.there
    (λ k e. fit.apart k index turned.first e turned.there) turned.tried)
falls_turn limits s index p x output false runs fit there last changed opened ok turned = falls_joined limits s output p runs (x, there, opened)

lowers_loop : (limits : Limits) (s : Sight) (index p : ℕ) (x : Seen) (kind : NodeKind) → is_running s.status ≡ true → LoopsFit s.def.nodes
    → slice_get s.attempts p ≡ Some x → last_of s.attempts index 0 ≡ Some x → ((c : Seen → Seen) → ((y : Seen) → is_of index 0 (c y) ≡ is_of index 0 y) → last_of (at_place p c s.attempts) index 0 ≡ Some (c x))
    → task_is_open x.status ≡ true → is_loop_of s index ≡ is_loop kind → IsTurned (loop_heads s) s.attempts index → Lowers limits s (turn_of_loop limits s p x kind)
lowers_loop limits s index p x (Loop' count n body) runs fit there last changed opened ok turned =
    falls_turn limits s index p x _ (turns_on x.turn count x.input) runs fit there last changed opened ok turned
lowers_loop limits s index p x Simple runs fit there last changed opened ok turned = tt
lowers_loop limits s index p x (Switch cases) runs fit there last changed opened ok turned = tt
lowers_loop limits s index p x (Fork' n branches) runs fit there last changed opened ok turned = tt
lowers_loop limits s index p x (Join references) runs fit there last changed opened ok turned = tt
lowers_loop limits s index p x (SubFlow name version) runs fit there last changed opened ok turned = tt
lowers_loop limits s index p x SetVariable runs fit there last changed opened ok turned = tt
lowers_loop limits s index p x Wait runs fit there last changed opened ok turned = tt
lowers_loop limits s index p x Human runs fit there last changed opened ok turned = tt
lowers_loop limits s index p x Terminate runs fit there last changed opened ok turned = tt

lowers_turn : (limits : Limits) (s : Sight) (index : ℕ) (n : Node) (o : Option ℕ) → AtLast s.attempts index 0 o → is_running s.status ≡ true → LoopsFit s.def.nodes
    → mark_of (last_of s.attempts index 0) ≡ Open → is_loop_of s index ≡ is_loop n.kind → IsTurned (loop_heads s) s.attempts index
    → Lowers limits s (option_and_then (turn_at_place limits s n) o)
lowers_turn limits s index n None at runs fit h ok turned = tt
lowers_turn limits s index n (Some p) at runs fit h ok turned =
    rw (at.1) (lowers_loop limits s index p at.0 n.kind runs fit at.1 at.2 at.3 (open_mark at.0 (ap mark_of (sym (at.2)) ∙ h)) ok turned)

lowers_turns : (limits : Limits) (s : Sight) (index : ℕ) (o : Option Node) → node_at s.def.nodes index ≡ o → is_running s.status ≡ true → LoopsFit s.def.nodes
    → mark_of (last_of s.attempts index 0) ≡ Open → IsTurned (loop_heads s) s.attempts index
    → Lowers limits s (option_and_then (λ (n : Node). option_and_then (turn_at_place limits s n) (last_place s.attempts index 0)) o)
lowers_turns limits s index None is runs fit h turned = tt
lowers_turns limits s index (Some n) is runs fit h turned =
    lowers_turn limits s index n (last_place s.attempts index 0) (at_last s.attempts index 0) runs fit h (ap (λ o. option_map_or (λ (n : Node). is_loop n.kind) o false) is) turned

lowers_step : (limits : Limits) (scene : Scene) (s : Sight) (next : Next) → is_running s.status ≡ true → LoopsFit s.def.nodes → Asked (loop_heads s) s.attempts next → Lowers limits s (take_step limits scene s next)
lowers_step limits scene s (Schedule index i) runs fit h = lowers_schedule limits scene s index i (node_at s.def.nodes index) refl runs h
lowers_step limits scene s (Joins index i) runs fit h = lowers_joined limits s (join_output s index i) index i (last_place s.attempts index i) (at_last s.attempts index i) runs h
lowers_step limits scene s (Turns index i) runs fit h = rw (h.0) (lowers_turns limits s index (node_at s.def.nodes index) refl runs fit h.1 h.2)
lowers_step limits scene s Waits runs fit h = tt
lowers_step limits scene s AllDone runs fit h = tt

-- ---- all rules

lowers_done : (limits : Limits) (scene : Scene) (s : Sight) (next : Next) → is_running s.status ≡ true → Lowers limits s (all_done limits scene s next)
lowers_done limits scene s (Schedule index i) runs = tt
lowers_done limits scene s (Joins index i) runs = tt
lowers_done limits scene s (Turns index i) runs = tt
lowers_done limits scene s Waits runs = tt
lowers_done limits scene s AllDone runs =
    let output = flow_output scene s in
    falls_within limits s (output ∷ []) (End flow.Completed None (Some output) ∷ []) runs (falls_end limits s flow.Completed None (Some output) runs refl)

lowers_orphan : (limits : Limits) (s : Sight) (b : Bool) → is_running s.status ≡ true → Lowers limits s (if b then Some parent_ended else None)
lowers_orphan limits s true runs = falls_end limits s flow.Terminated (Some (codes "parent ended")) None runs refl
lowers_orphan limits s false runs = tt

lowers_late : (limits : Limits) (s : Sight) (b alert : Bool) → s.over_time ≡ b → is_running s.status ≡ true → Lowers limits s (if b then Some (ran_too_long alert) else None)
lowers_late limits s true true e runs = λ room. falls_note_flow limits s (codes "workflow timed out") runs e
lowers_late limits s true false e runs = falls_end limits s flow.TimedOut (Some (codes "workflow timed out")) None runs refl
lowers_late limits s false alert e runs = tt

-- what every sight of a flow has
pub record IsSeen (s : Sight) : Type 0 where
  pub dues : DuesOpen s.attempts s.due
  pub ends : EndsOpen s.attempts s.ended

lowers_first : (limits : Limits) (s : Sight) (x : Option (List Act)) (rest : List (Option (List Act))) → Lowers limits s x → Lowers limits s (first_of rest) → Lowers limits s (first_of (x ∷ rest))
lowers_first limits s None rest p q = q
lowers_first limits s (Some acts) rest p q = p

lowers_pick : (limits : Limits) (scene : Scene) (s : Sight) → LoopsFit s.def.nodes → IsSeen s → Lowers limits s (pick limits scene s)
unfolding pick
lowers_pick limits scene s fit h = by_status (is_running s.status) refl where
  by_status : (b : Bool) → is_running s.status ≡ b → Lowers limits s (if b then first_of (rules limits scene s) else None)
  by_status false runs = tt
  by_status true runs =
      lowers_first limits s (r0 scene) _ (lowers_orphan limits s scene.orphan runs)
      (lowers_first limits s (r1 s) _ (lowers_late limits s s.over_time s.def.alert_only refl runs)
      (lowers_first limits s (r2 s) _ (lowers_map limits s (first_due s.due) _ (λ q. past_due s q.0 q.1) (due_at s.attempts s.due h.dues) (λ q k. falls_past_due limits s q.0 q.1 runs k))
      (lowers_first limits s (r3 limits scene s) _
      (lowers_map limits s (first_some s.ended) _ (λ q. child_ended limits scene q.0 q.1) (end_at s.attempts s.ended h.ends) (λ q k. falls_child limits scene s q.0 q.1 runs k))
      (lowers_first limits s (r4 limits s) _ (lowers_map limits s (first_lost s.attempts) _ (λ q. lost limits s q.0 q.1) (lost_at s.attempts) (λ q k. falls_lost limits s q.0 q.1 runs k))
      (lowers_first limits s (r5 limits scene s) _ (lowers_step limits scene s (next_step s.attempts s.def.nodes) runs fit (asked_step s.attempts s.def.nodes fit.whole))
      (lowers_first limits s (r6 limits scene s) [] (lowers_done limits scene s (next_step s.attempts s.def.nodes) runs) tt))))))

-- a rule that applies applies to a flow that runs
pub runs_where : (limits : Limits) (scene : Scene) (s : Sight) (acts : List Act) → pick limits scene s ≡ Some acts → is_running s.status ≡ true
unfolding pick
runs_where limits scene s acts h = by_status (is_running s.status) _ h where
  by_status : (b : Bool) (o : Option (List Act)) → (if b then o else None) ≡ Some acts → b ≡ true
  by_status true o h = refl
  by_status false o h = cc

-- the numbers change nothing of it
falls_allowed : (limits : Limits) (s : Sight) (r : Room) (acts : List Act) → is_running s.status ≡ true → Falls limits s acts → left limits (shown_all (allowed r acts) s) < left limits s
falls_allowed limits s r acts runs h = by_spent (r.spent && list_any is_add acts) where
  by_spent : (b : Bool) → left limits (shown_all (if b then fails (codes "numbers spent") None else map (fitted r) acts) s) < left limits s
  by_spent true = falls_done limits s s flow.Failed (Some (codes "numbers spent")) None runs refl
  by_spent false = h r

-- ---- settled

shown_made : (e : ℕ) (cs : List ChildState) (acts : List Act) (t : Turn) → AllBelow t.next_flow cs → sight e cs (made e acts t).flow ≡ shown_all acts (sight e cs t.flow)
shown_made e cs [] t h = refl
shown_made e cs (act ∷ rest) t h =
    shown_made e cs rest (make e act t) (below_mono t.next_flow (make e act t).next_flow cs (let k = made_flows e (act ∷ []) t in omega (arith, k)) h)
    ∙ ap (shown_all rest) (sight_make e cs act t h)

kept_def : (e : ℕ) (act : Act) (t : Turn) → (make e act t).flow.def ≡ t.flow.def
kept_def e (Add n) t = refl
kept_def e (Close p o r out) t = refl
kept_def e (Note p x r) t = refl
kept_def e (Forgive p) t = refl
kept_def e (TurnOn p out turn) t = refl
kept_def e (Variables v) t = refl
kept_def e (NoteFlow r) t = refl
kept_def e (End s r out) t = refl

pub made_def : (e : ℕ) (acts : List Act) (t : Turn) → (made e acts t).flow.def ≡ t.flow.def
made_def e [] t = refl
made_def e (act ∷ rest) t = made_def e rest (make e act t) ∙ kept_def e act t

dues_open : (e : ℕ) (xs : List Attempt) → DuesOpen (map seen xs) (map (due e) xs)
dues_open e [] = tt
dues_open e (a ∷ rest) = (λ over. rw over refl, dues_open e rest)

ends_open : (cs : List ChildState) (xs : List Attempt) → EndsOpen (map seen xs) (map (child_end cs) xs)
ends_open cs [] = tt
ends_open cs (a ∷ rest) = (λ over. rw over refl, ends_open cs rest)

pub is_seen : (e : ℕ) (cs : List ChildState) (f : Flow) → IsSeen (sight e cs f)
unfolding sight
is_seen e cs f = record { dues = dues_open e f.attempts; ends = ends_open cs f.attempts }

seen_fits : (e : ℕ) (cs : List ChildState) (f : Flow) → LoopsFit f.def.nodes → LoopsFit (sight e cs f).def.nodes
unfolding sight
seen_fits e cs f h = h

nothing_left : (limits : Limits) (scene : Scene) (s : Sight) → left limits s ≤ 0 → pick limits scene s ≡ None
unfolding pick
nothing_left limits scene s h = by_status (is_running s.status) _ h where
  by_status : (b : Bool) (o : Option (List Act)) → left_by b (credits limits s) ≤ 0 → (if b then o else None) ≡ None
  by_status true o le = absurd (omega arith)
  by_status false o le = refl

settled_after : (limits : Limits) (scene : Scene) (kept e n : ℕ) (t : Turn) → AllBelow t.next_flow scene.children → LoopsFit t.flow.def.nodes
    → left limits (sight e scene.children t.flow) ≤ n → rule limits scene kept e (after limits scene kept e n t) ≡ None
unfolding rule
settled_after limits scene kept e zero t below fit h = rw (nothing_left limits scene (sight e scene.children t.flow) h) refl
settled_after limits scene kept e (suc n) t below fit h =
    by_pick (pick limits scene (sight e scene.children t.flow)) refl
    (lowers_pick limits scene (sight e scene.children t.flow) (seen_fits e scene.children t.flow fit) (is_seen e scene.children t.flow))
    (λ u b f le. settled_after limits scene kept e n u b f le) where
      by_pick : (o : Option (List Act)) → pick limits scene (sight e scene.children t.flow) ≡ o → Lowers limits (sight e scene.children t.flow) o
          → ((u : Turn) → AllBelow u.next_flow scene.children → LoopsFit u.flow.def.nodes → left limits (sight e scene.children u.flow) ≤ n
          → option_map (λ acts. made e acts (after limits scene kept e n u)) (choose limits scene kept e (after limits scene kept e n u)) ≡ None)
          → option_map (λ acts. made e acts (option_map_or (λ next. after limits scene kept e n next) (option_map (λ acts. made e acts t) (option_map (allowed (room limits kept t)) o)) t))
          (choose limits scene kept e (option_map_or (λ next. after limits scene kept e n next) (option_map (λ acts. made e acts t) (option_map (allowed (room limits kept t)) o)) t))
          ≡ None
      by_pick None is low on = rw is refl
      by_pick (Some wish) is low on =
          let acts = allowed (room limits kept t) wish in
          let fall = falls_allowed limits (sight e scene.children t.flow) (room limits kept t) wish (runs_where limits scene (sight e scene.children t.flow) wish is) low in
          let seen_so = ap (left limits) (shown_made e scene.children acts t below) in
          on (made e acts t) (below_mono t.next_flow (made e acts t).next_flow scene.children (let k = made_flows e acts t in omega (arith, k)) below)
          (subst (λ (d : FlowDef). LoopsFit d.nodes) (sym (made_def e acts t)) fit) (omega (arith, fall, seen_so, h))

-- ---- what is left at first

weight_most : (status : TaskStatus) → weight status ≤ 2
weight_most status = by_tests (task_is_open status) (task_is_successful status) where
  by_tests : (b c : Bool) → (if b then 2 else if c then 0 else 1) ≤ 2
  by_tests true c = omega arith
  by_tests false true = omega arith
  by_tests false false = omega arith

few_works : (xs : List Seen) → works xs ≤ 2 * length xs
few_works [] = omega arith
few_works (x ∷ xs) = let h = few_works xs in let k = weight_most x.status in omega (arith, h, k)

few_paid : (hs : List (ℕ × ℕ)) (ok : ℕ → Bool) (turn : ℕ → ℕ) (xs : List Seen) → paid hs ok turn xs ≤ length xs
few_paid hs ok turn [] = omega arith
few_paid hs ok turn (x ∷ xs) = by_test (list_any (owes ok turn x) hs) (few_paid hs ok turn xs) where
  by_test : (b : Bool) → paid hs ok turn xs ≤ length xs → one_if b + paid hs ok turn xs ≤ suc (length xs)
  by_test true h = omega (arith, h)
  by_test false h = omega (arith, h)

put_length : (d : ℕ × Cause) (xs : List (ℕ × Cause)) → length (put_in d xs) ≡ suc (length xs)
put_length d [] = refl
put_length d (x ∷ xs) = by_order (nat_le d.0 x.0) (put_length d xs) where
  by_order : (b : Bool) → length (put_in d xs) ≡ suc (length xs) → length (if b then d ∷ x ∷ xs else x ∷ put_in d xs) ≡ suc (suc (length xs))
  by_order true h = refl
  by_order false h = ap suc h

sorted_length : (xs : List (ℕ × Cause)) → length (sorted xs) ≡ length xs
sorted_length [] = refl
sorted_length (x ∷ xs) = put_length x (sorted xs) ∙ ap suc (sorted_length xs)

after_few : (b : Bool) (s m : ℕ) (c : Cause) → length (due_after b s m c) ≤ 1
after_few b s m c = by_force (b && not (s == 0)) where
  by_force : (z : Bool) → length {A = ℕ × Cause} (if z then (m + 1000 * s, c) ∷ [] else []) ≤ 1
  by_force true = omega arith
  by_force false = omega arith

from_few : (b : Bool) (s : ℕ) (m : Option ℕ) (c : Cause) → length (due_from b s m c) ≤ 1
from_few b s None c = omega arith
from_few b s (Some m) c = after_few b s m c

-- a poll and a response are never due at once
one_or_other : (held b : Bool) (s t m k : ℕ) → length (due_after (not held && b) s m Poll ++ due_after held t k Response) ≤ 1
one_or_other true b s t m k = after_few true t k Response
one_or_other false b s t m k = let l = length-append (due_after b s m Poll) [] in let a = after_few b s m Poll in omega (arith, l, a)

few_by_timing : (o : Option Timing) (a : Attempt) → length (due_by_timing o (clocked a)) ≤ 2
few_by_timing None a = omega arith
few_by_timing (Some t) a =
    let held = is_in_progress a.status in
    let one = one_or_other held (not a.poll_noted) t.poll t.response a.ready a.last_poll in
    let two = from_few (not a.total_noted) t.total a.first_poll Total in
    let l = length-append (due_after (not held && not a.poll_noted) t.poll a.ready Poll ++ due_after held t.response a.last_poll Response) (due_from (not a.total_noted) t.total a.first_poll Total) in
    omega (arith, one, two, l)

few_by_wait : (o : Option ℕ) → length (due_by_wait o) ≤ 1
few_by_wait None = omega arith
few_by_wait (Some d) = omega arith

few_deadlines : (a : Attempt) → length (deadlines a) ≤ 3
few_deadlines a = by_open (task_is_open a.status) where
  by_open : (b : Bool) → length (if b then due_by_timing a.timing (clocked a) ++ due_by_wait a.wait else []) ≤ 3
  by_open true =
      let x = few_by_timing a.timing a in let y = few_by_wait a.wait in
      let l = length-append (due_by_timing a.timing (clocked a)) (due_by_wait a.wait) in omega (arith, x, y, l)
  by_open false = omega arith

few_dues : (e : ℕ) (xs : List Attempt) → dues (map (due e) xs) ≤ 3 * length xs
few_dues e [] = omega arith
few_dues e (x ∷ xs) =
    let h = few_dues e xs in
    let a = length-map (sorted (filter (has_passed e) (deadlines x))) cause_of in
    let b = sorted_length (filter (has_passed e) (deadlines x)) in
    let c = kept_fewer (has_passed e) (deadlines x) in
    let d = few_deadlines x in
    omega (arith, h, a, b, c, d)

one_most : (b : Bool) → one_if b ≤ 1
one_most true = omega arith
one_most false = omega arith

left_at_first : (limits : Limits) (scene : Scene) (e : ℕ) (t : Turn) → left limits (sight e scene.children t.flow) ≤ rules_at_most limits t
unfolding sight
left_at_first limits scene e t = by_status (is_running t.flow.status) where
  xs : List Seen
  xs = map seen t.flow.attempts

  by_status : (b : Bool) → left_by b (credits limits (sight e scene.children t.flow)) ≤ rules_at_most limits t
  by_status false = omega arith
  by_status true =
      let a = few_works (map seen t.flow.attempts) in
      let b = few_dues e t.flow.attempts in
      let c = few_paid (heads (all_nodes t.flow.def.nodes)) (λ l. is_kind_at is_loop t.flow.def l) (turns (map seen t.flow.attempts)) (map seen t.flow.attempts) in
      let d = one_most (over_time e t.flow) in
      let l = length-map t.flow.attempts seen in
      omega (arith, a, b, c, d, l)

pub decided_settled : (limits : Limits) (scene : Scene) (kept e : ℕ) (t : Turn) → AllBelow t.next_flow scene.children → LoopsFit t.flow.def.nodes
    → rule limits scene kept e (decide limits scene kept e t) ≡ None
unfolding decide
decided_settled limits scene kept e t below fit = settled_after limits scene kept e (rules_at_most limits t) t below fit (left_at_first limits scene e t)

after_settled : (limits : Limits) (scene : Scene) (kept e n : ℕ) (t : Turn) → rule limits scene kept e t ≡ None → after limits scene kept e n t ≡ t
after_settled limits scene kept e zero t h = refl
after_settled limits scene kept e (suc n) t h = rw h refl

decided_stays : (limits : Limits) (scene : Scene) (kept e : ℕ) (t : Turn) → rule limits scene kept e t ≡ None → decide limits scene kept e t ≡ t
unfolding decide
decided_stays limits scene kept e t h = after_settled limits scene kept e (rules_at_most limits t) t h

pub decided_again : (limits : Limits) (scene : Scene) (kept e : ℕ) (t : Turn) → AllBelow t.next_flow scene.children → LoopsFit t.flow.def.nodes
    → decide limits scene kept e (decide limits scene kept e t) ≡ decide limits scene kept e t
decided_again limits scene kept e t below fit = decided_stays limits scene kept e (decide limits scene kept e t) (decided_settled limits scene kept e t below fit)
