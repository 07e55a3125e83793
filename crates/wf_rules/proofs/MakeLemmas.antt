-- What a rule wants done can be made of every kept flow, and leaves one that can be kept.
use Rattle.std.proofs.Common.{◌≡◌, ℕ, zero, suc, ◌<◌, Bool, true, false, if◌then◌else◌, ◌==◌, ◌||◌, not, is_some, List, [], ◌∷◌, ◌++◌, map, slice_get, Option, None, Some, refl, sym, ap, ◌∙◌, arith, ◌+◌}
use Rattle.std.proofs.lemmas.Bool.Decides.{nat_tests}
use Rattle.std.specs.Prelude.{option_and_then}
use Rattle.std.specs.List.{list_any}
use Rattle.std.specs.Option.{option_map_or}
use Rattle.wf_doc.specs.declared.doc.Doc.{Doc}
use Rattle.wf_names.specs.TaskStatus.{task_is_open}
use Rattle.wf_names.specs.declared.ids.TaskNo.{TaskNo}
use Rattle.wf_names.specs.declared.statuses.TaskStatus.{TaskStatus}
use Rattle.wf_names.specs.declared.statuses.TaskStatus.TheVariants as task
use Rattle.wf_rules.specs.declared.acting.Act.{Act}
use Rattle.wf_rules.specs.declared.acting.Act.TheVariants.{Add, Close, Note, Forgive, Turn as TurnOn, Variables, NoteFlow, End}
use Rattle.wf_rules.specs.declared.acting.Alert.{Alert}
use Rattle.wf_rules.specs.declared.acting.Alert.TheVariants.{Poll as PollAlert, Total as TotalAlert}
use Rattle.wf_rules.specs.declared.acting.Begin.{Begin}
use Rattle.wf_rules.specs.declared.acting.Begin.TheVariants.{Queued, Held as Holds, Over}
use Rattle.wf_rules.specs.declared.acting.Child.{Child}
use Rattle.wf_rules.specs.declared.acting.Child.TheVariants.{Nothing, Flow as NewFlow, TooLarge, Refused}
use Rattle.wf_rules.specs.declared.acting.NewAttempt.{NewAttempt}
use Rattle.wf_rules.specs.declared.acting.Outcome.{Outcome}
use Rattle.wf_rules.specs.declared.acting.Outcome.TheVariants.{Completed, Failed, FailedWithTerminalError, TimedOut}
use Rattle.wf_machine.specs.declared.definition.FlowDef.{FlowDef}
use Rattle.wf_machine.specs.declared.definition.Node.{Node}
use Rattle.wf_machine.specs.declared.definition.NodeKind.{NodeKind, Simple, Switch, Fork', Join, Loop', SubFlow, SetVariable, Wait, Human, Terminate}
use Rattle.wf_machine.specs.State.{Attempt, Flow, RisingTo, canceled}
use Rattle.wf_machine.specs.Sight.{Seen, seen}
use Rattle.wf_machine.specs.Marks.{node_at}
use Rattle.wf_machine.specs.Records.{Each, Held, IsMoment, IsOver, IsRecord, IsSound, IsRetry, AreRetries, is_same_place, is_kind_at, is_simple, is_loop, is_scheduled, is_skipped}
use Rattle.wf_rules.specs.Acts.{Turn, make, at_place, number_at, added, child_number, first_status, first_timing, status_of, closed, noted, forgiven, turned}
use Rattle.wf_rules.specs.Rules.{is_lost_status, is_running}
use Rattle.wf_rules.specs.Plans.{is_of_sub_flow}
use Rattle.wf_rules.specs.Making.{is_queued, is_held, IsTried, IsFit, CanMake}
use Rattle.wf_machine.proofs.RecordLemmas.{Stays, alike_added, canceled_number, canceled_over, canceled_stays, each_added, each_through, held_before, open_not_skipped, retries_added, retries_alike, retries_through, runs_open, sound_canceled}
pub use Rattle.wf_machine.proofs.RecordLemmas.{rising_added, rising_length, rising_through}

-- ---- lists

pub each_at : {T : Type 0} (P : T → Type 0) (p : ℕ) (c : T → T) (xs : List T) → Each P xs → ((x : T) → slice_get xs p ≡ Some x → P x → P (c x)) → Each P (at_place p c xs)
each_at P p c [] h k = tt
each_at P zero c (x ∷ xs) h k = (k x refl h.0, h.1)
each_at P (suc p) c (x ∷ xs) h k = (h.0, each_at P p c xs h.1 k)

seen_at : (xs : List Attempt) (p : ℕ) (a : Attempt) → slice_get xs p ≡ Some a → slice_get (map seen xs) p ≡ Some (seen a)
seen_at [] p a h = cc
seen_at (x ∷ xs) zero a h = let same : x ≡ a = cc in ap (λ y. Some (seen y)) same
seen_at (x ∷ xs) (suc p) a h = seen_at xs p a h

same_seen : (xs : List Attempt) (p : ℕ) (a : Attempt) (x : Seen) → slice_get xs p ≡ Some a → slice_get (map seen xs) p ≡ Some x → seen a ≡ x
same_seen xs p a x h k = let l = seen_at xs p a h in cc

-- ---- retries

retries_at : (before : List Attempt) (p : ℕ) (c : Attempt → Attempt) (xs : List Attempt) → Stays c → AreRetries before xs → AreRetries before (at_place p c xs)
retries_at before p c [] k r = tt
retries_at before zero c (x ∷ xs) k r = (
  held_before before before x (c x) (λ n a. refl) (k x) r.0,
  retries_alike (before ++ x ∷ []) (before ++ c x ∷ []) xs (alike_added before before x (c x) (λ n a. refl) (λ n a. ap (is_same_place n a) (sym (k x)))) r.1,
)
retries_at before (suc p) c (x ∷ xs) k r = (r.0, retries_at (before ++ x ∷ []) p c xs k r.1)

-- ---- changed attempts

lost_is_over : (status : TaskStatus) → is_lost_status status ≡ true → (task_is_open status ≡ false) × (is_skipped status ≡ false)
lost_is_over task.Scheduled h = cc
lost_is_over task.InProgress h = cc
lost_is_over task.Completed h = cc
lost_is_over task.CompletedWithErrors h = cc
lost_is_over task.Failed h = (refl, refl)
lost_is_over task.FailedWithTerminalError h = (refl, refl)
lost_is_over task.TimedOut h = (refl, refl)
lost_is_over task.Canceled h = (refl, refl)
lost_is_over task.Skipped h = cc

outcome_over : (o : Outcome) → (task_is_open (status_of o) ≡ false) × (is_scheduled (status_of o) ≡ false)
outcome_over Completed = (refl, refl)
outcome_over Failed = (refl, refl)
outcome_over FailedWithTerminalError = (refl, refl)
outcome_over TimedOut = (refl, refl)

sound_closed : (def : FlowDef) (e : ℕ) (o : Outcome) (r : Option (List ℕ)) (out : Option Doc) (a : Attempt) → IsSound def a → task_is_open a.status ≡ true → IsSound def (closed e o r out a)
sound_closed def e o r out a h opened =
    let over = outcome_over o in
    record {
      ended = ap not (sym over.0);
      superseded = λ x. over.0;
      timing = h.timing;
      scheduled = λ x. (let no : false ≡ true = sym over.1 ∙ x in absurd cc);
      retried = h.retried;
      child = h.child;
      timed = λ x y. h.timed x (open_not_skipped a.status opened);
      turn = λ x y. (let no : false ≡ true = sym over.0 ∙ y in absurd cc);
    }

sound_noted : (def : FlowDef) (e : ℕ) (alert : Alert) (r : List ℕ) (a : Attempt) → IsSound def a → IsSound def (noted e alert r a)
sound_noted def e PollAlert r a h =
    record { ended = h.ended; superseded = h.superseded; timing = h.timing; scheduled = h.scheduled; retried = h.retried; child = h.child; timed = h.timed; turn = h.turn }
sound_noted def e TotalAlert r a h =
    record { ended = h.ended; superseded = h.superseded; timing = h.timing; scheduled = h.scheduled; retried = h.retried; child = h.child; timed = h.timed; turn = h.turn }

sound_forgiven : (def : FlowDef) (e : ℕ) (a : Attempt) → IsSound def a → is_lost_status a.status ≡ true → IsSound def (forgiven e a)
sound_forgiven def e a h lost =
    let was = lost_is_over a.status lost in
    record {
      ended = h.ended ∙ ap not was.0;
      superseded = λ x. refl;
      timing = h.timing;
      scheduled = λ x. cc;
      retried = h.retried;
      child = h.child;
      timed = λ x y. h.timed x was.1;
      turn = λ x y. cc;
    }

sound_turned : (def : FlowDef) (e : ℕ) (out : Doc) (turn : ℕ) (a : Attempt) → IsSound def a → 0 < turn → IsSound def (turned e out turn a)
sound_turned def e out turn a h some =
    record { ended = h.ended; superseded = h.superseded; timing = h.timing; scheduled = h.scheduled; retried = h.retried; child = h.child; timed = h.timed; turn = λ x y. some }

-- ---- a new attempt

first_scheduled : (begin : Begin) → is_scheduled (first_status begin) ≡ true → is_queued begin ≡ true
first_scheduled (Queued timing delay) h = refl
first_scheduled (Holds delay) h = cc
first_scheduled (Over Completed) h = cc
first_scheduled (Over Failed) h = cc
first_scheduled (Over FailedWithTerminalError) h = cc
first_scheduled (Over TimedOut) h = cc

first_has_timing : (begin : Begin) → is_some (first_timing begin) ≡ is_queued begin
first_has_timing (Queued timing delay) = refl
first_has_timing (Holds delay) = refl
first_has_timing (Over outcome) = refl

first_turn : (begin : Begin) → task_is_open (first_status begin) ≡ true → is_queued begin ≡ false → is_held begin ≡ true
first_turn (Queued timing delay) h k = cc
first_turn (Holds delay) h k = refl
first_turn (Over Completed) h k = cc
first_turn (Over Failed) h k = cc
first_turn (Over FailedWithTerminalError) h k = cc
first_turn (Over TimedOut) h k = cc

first_ended : (e : ℕ) (status : TaskStatus) → is_some (if task_is_open status then None else Some e) ≡ not (task_is_open status)
first_ended e status = by_open (task_is_open status) where
  by_open : (b : Bool) → is_some {T = ℕ} (if b then None else Some e) ≡ not b
  by_open true = refl
  by_open false = refl

some_child : (number : ℕ) (child : Child) → is_some (child_number number child) ≡ true → is_of_sub_flow child ≡ true
some_child number Nothing h = cc
some_child number (NewFlow def input) h = refl
some_child number TooLarge h = cc
some_child number Refused h = cc

some_retried : (xs : List Attempt) (o : Option ℕ) → is_some (option_and_then (λ p. number_at p xs) o) ≡ true → is_some o ≡ true
some_retried xs None h = cc
some_retried xs (Some p) h = refl

loop_not_simple : (kind : NodeKind) → is_loop kind ≡ true → is_simple kind ≡ false
loop_not_simple Simple h = cc
loop_not_simple (Switch cases) h = cc
loop_not_simple (Fork' s branches) h = cc
loop_not_simple (Join references) h = cc
loop_not_simple (Loop' count s body) h = refl
loop_not_simple (SubFlow name version) h = cc
loop_not_simple SetVariable h = cc
loop_not_simple Wait h = cc
loop_not_simple Human h = cc
loop_not_simple Terminate h = cc

loop_at_is : (def : FlowDef) (node : ℕ) → is_kind_at is_loop def node ≡ true → is_kind_at is_simple def node ≡ false
loop_at_is def node h = by_node (node_at def.nodes node) h where
  by_node : (o : Option Node) → option_map_or (λ (n : Node). is_loop n.kind) o false ≡ true → option_map_or (λ (n : Node). is_simple n.kind) o false ≡ false
  by_node None h = refl
  by_node (Some n) h = loop_not_simple n.kind h

sound_added : (e : ℕ) (n : NewAttempt) (t : Turn) → IsFit t.flow.def (map seen t.flow.attempts) n → IsSound t.flow.def (added e n t)
sound_added e n t h = record {
  ended = first_ended e (first_status n.begin);
  superseded = λ x. cc;
  timing = λ x. h.queued ∙ (sym (first_has_timing n.begin) ∙ x);
  scheduled = λ x. h.queued ∙ first_scheduled n.begin x;
  retried = λ x. h.simple (some_retried t.flow.attempts n.retried x);
  child = λ x. h.child (some_child t.next_flow n.child x);
  timed = λ x y. first_has_timing n.begin ∙ (sym h.queued ∙ x);
  turn = λ x y. h.turn x (first_turn n.begin y (sym h.queued ∙ loop_at_is t.flow.def n.node x));
}

same_number : (xs : List Attempt) (p : ℕ) (x : Seen) (a : Attempt) → slice_get (map seen xs) p ≡ Some x → x.node ≡ a.node → x.iteration ≡ a.iteration
    → Held (λ n. list_any (is_same_place n a) xs ≡ true) (number_at p xs)
same_number [] p x a h node iteration = tt
same_number (y ∷ ys) zero x a h node iteration =
    let same : seen y ≡ x = cc in
    let n : y.node ≡ a.node = ap (λ (z : Seen). z.node) same ∙ node in
    let i : y.iteration ≡ a.iteration = ap (λ (z : Seen). z.iteration) same ∙ iteration in
    let one : (y.number.0 == y.number.0) ≡ true = grind (arith, nat_tests) in
    let two : (y.node == a.node) ≡ true = grind (arith, nat_tests) in
    let three : (y.iteration == a.iteration) ≡ true = grind (arith, nat_tests) in
    rw (one, two, three) refl
same_number (y ∷ ys) (suc p) x a h node iteration = later (number_at p ys) (same_number ys p x a h node iteration) where
  later : (o : Option TaskNo) → Held (λ n. list_any (is_same_place n a) ys ≡ true) o → Held (λ n. list_any (is_same_place n a) (y ∷ ys) ≡ true) o
  later None h = tt
  later (Some n) h = or_right (is_same_place n a y) h where
    or_right : (b : Bool) → list_any (is_same_place n a) ys ≡ true → (b || list_any (is_same_place n a) ys) ≡ true
    or_right true h = refl
    or_right false h = h

retry_added : (e : ℕ) (n : NewAttempt) (t : Turn) → IsFit t.flow.def (map seen t.flow.attempts) n → IsRetry t.flow.attempts (added e n t)
retry_added e n t h = by_retried n.retried h.retried where
  by_retried : (o : Option ℕ) → Held (IsTried (map seen t.flow.attempts) n.node n.iteration) o
      → Held (λ k. list_any (is_same_place k (added e n t)) t.flow.attempts ≡ true) (option_and_then (λ p. number_at p t.flow.attempts) o)
  by_retried None k = tt
  by_retried (Some p) k = same_number t.flow.attempts p k.attempt (added e n t) k.there k.same_node k.same_turn

-- ---- records

record_at : (f : Flow) (p : ℕ) (c : Attempt → Attempt) → IsRecord f → Stays c → ((a : Attempt) → slice_get f.attempts p ≡ Some a → IsSound f.def a → IsSound f.def (c a))
    → ((a : Attempt) → slice_get f.attempts p ≡ Some a → task_is_open a.status ≡ false → task_is_open (c a).status ≡ false) → IsRecord (record f { attempts = at_place p c f.attempts })
record_at f p c h stays sound over = record {
  number = h.number;
  parent = h.parent;
  created = h.created;
  started = h.started;
  end_moment = h.end_moment;
  ended = h.ended;
  over = λ x. each_at IsOver p c f.attempts (h.over x) over;
  attempts = each_at (IsSound f.def) p c f.attempts h.attempts sound;
  retries = retries_at [] p c f.attempts stays h.retries;
}

noted_stays : (e : ℕ) (alert : Alert) (r : List ℕ) → Stays (noted e alert r)
noted_stays e PollAlert r a = refl
noted_stays e TotalAlert r a = refl

noted_status : (e : ℕ) (alert : Alert) (r : List ℕ) (a : Attempt) → (noted e alert r a).status ≡ a.status
noted_status e PollAlert r a = refl
noted_status e TotalAlert r a = refl

status_at : (xs : List Attempt) (p : ℕ) (a : Attempt) (x : Seen) → slice_get xs p ≡ Some a → slice_get (map seen xs) p ≡ Some x → a.status ≡ x.status
status_at xs p a x h k = ap (λ (z : Seen). z.status) (same_seen xs p a x h k)

pub record_made : (e : ℕ) (act : Act) (t : Turn) → IsMoment e → IsRecord t.flow → CanMake t.flow.def (is_running t.flow.status) (map seen t.flow.attempts) act → IsRecord (make e act t).flow
record_made e (Add n) t moment h k = record {
  number = h.number;
  parent = h.parent;
  created = h.created;
  started = h.started;
  end_moment = h.end_moment;
  ended = h.ended;
  over = λ over. (let no : false ≡ true = sym over ∙ runs_open t.flow.status k.0 in absurd cc);
  attempts = each_added (IsSound t.flow.def) t.flow.attempts (added e n t) h.attempts (sound_added e n t k.1);
  retries = retries_added [] t.flow.attempts (added e n t) h.retries (retry_added e n t k.1);
}
record_made e (Close p o r out) t moment h k =
    record_at t.flow p (closed e o r out) h (λ a. refl)
    (λ a there sound. sound_closed t.flow.def e o r out a sound (ap task_is_open (status_at t.flow.attempts p a k.0 there k.1) ∙ k.2))
    (λ a there over. (outcome_over o).0)
record_made e (Note p alert r) t moment h k =
    record_at t.flow p (noted e alert r) h (noted_stays e alert r) (λ a there sound. sound_noted t.flow.def e alert r a sound)
    (λ a there over. ap task_is_open (noted_status e alert r a) ∙ over)
record_made e (Forgive p) t moment h k =
    record_at t.flow p (forgiven e) h (λ a. refl)
    (λ a there sound. sound_forgiven t.flow.def e a sound (ap is_lost_status (status_at t.flow.attempts p a k.0 there k.1) ∙ k.2))
    (λ a there over. refl)
record_made e (TurnOn p out turn) t moment h k =
    record_at t.flow p (turned e out turn) h (λ a. refl) (λ a there sound. sound_turned t.flow.def e out turn a sound k) (λ a there over. over)
record_made e (Variables v) t moment h k =
    record { number = h.number; parent = h.parent; created = h.created; started = h.started; end_moment = h.end_moment; ended = h.ended; over = h.over; attempts = h.attempts; retries = h.retries }
record_made e (NoteFlow r) t moment h k =
    record { number = h.number; parent = h.parent; created = h.created; started = h.started; end_moment = h.end_moment; ended = h.ended; over = h.over; attempts = h.attempts; retries = h.retries }
record_made e (End status r out) t moment h k = record {
  number = h.number;
  parent = h.parent;
  created = h.created;
  started = h.started;
  end_moment = moment;
  ended = ap not (sym k);
  over = λ x. each_through (IsSound t.flow.def) IsOver (canceled e) t.flow.attempts h.attempts (λ a y. canceled_over e a);
  attempts = each_through (IsSound t.flow.def) (IsSound t.flow.def) (canceled e) t.flow.attempts h.attempts (λ a y. sound_canceled t.flow.def e a y);
  retries = retries_through [] [] (canceled e) t.flow.attempts (canceled_stays e) (λ n a. refl) h.retries;
}

-- ---- numbers

pub rising_at : (low high p : ℕ) (c : Attempt → Attempt) (xs : List Attempt) → ((a : Attempt) → (c a).number ≡ a.number) → RisingTo low high xs → RisingTo low high (at_place p c xs)
rising_at low high p c [] k h = h
rising_at low high zero c (x ∷ xs) k h = rw (k x) h
rising_at low high (suc p) c (x ∷ xs) k h = (h.0, rising_at (x.number.0 + 1) high p c xs k h.1)

noted_number : (e : ℕ) (alert : Alert) (r : List ℕ) (a : Attempt) → (noted e alert r a).number ≡ a.number
noted_number e PollAlert r a = refl
noted_number e TotalAlert r a = refl

-- attempts stand by rising number, below the next one
pub rising_made : (e low : ℕ) (act : Act) (t : Turn) → RisingTo low t.next_task t.flow.attempts → RisingTo low (make e act t).next_task (make e act t).flow.attempts
rising_made e low (Add n) t h = rising_added low t.next_task t.flow.attempts (added e n t) h (omega arith)
rising_made e low (Close p o r out) t h = rising_at low t.next_task p (closed e o r out) t.flow.attempts (λ a. refl) h
rising_made e low (Note p alert r) t h = rising_at low t.next_task p (noted e alert r) t.flow.attempts (λ a. noted_number e alert r a) h
rising_made e low (Forgive p) t h = rising_at low t.next_task p (forgiven e) t.flow.attempts (λ a. refl) h
rising_made e low (TurnOn p out turn) t h = rising_at low t.next_task p (turned e out turn) t.flow.attempts (λ a. refl) h
rising_made e low (Variables v) t h = h
rising_made e low (NoteFlow r) t h = h
rising_made e low (End status r out) t h = rising_through low t.next_task (canceled e) t.flow.attempts (λ a. canceled_number e a) h
