-- What an operator does to a flow leaves one that can be kept, whose numbers still rise.
use Rattle.std.proofs.Common.{◌≡◌, ℕ, ◌+◌, ◌≤◌, ◌<◌, ◌^◌, ◌||◌, Bool, true, false, not, nat_le, if◌then◌else◌, List, [], ◌∷◌, ◌++◌, length, Option, None, Some, refl, sym, ap, ◌∙◌, arith, subst}
use Rattle.std.proofs.lemmas.Bool.Decides.{nat_tests}
use Rattle.std.specs.Prelude.{unwrap_or}
use Rattle.std.specs.Option.{option_map_or}
use Rattle.wf_doc.specs.declared.doc.Doc.{Doc}
use Rattle.wf_names.specs.declared.ids.TaskNo.{TaskNo}
use Rattle.wf_names.specs.declared.refusals.Refusal.{Refusal}
use Rattle.wf_names.specs.declared.statuses.FlowStatus.{FlowStatus}
use Rattle.wf_names.specs.declared.statuses.FlowStatus.TheVariants as flow
use Rattle.wf_names.specs.FlowStatus.{flow_is_open}
use Rattle.wf_wire.specs.declared.limits.Limits.{Limits}
use Rattle.wf_machine.specs.declared.definition.FlowDef.{FlowDef}
use Rattle.wf_machine.specs.declared.definition.Node.{Node}
use Rattle.wf_machine.specs.State.{Attempt, Flow, RisingTo, canceled, empty_table}
use Rattle.wf_machine.specs.Records.{Each, IsMoment, IsOver, IsRecord, IsSound, AreRetries, is_same_place}
use Rattle.wf_machine.specs.Statuses.{is_running, is_paused}
use Rattle.wf_machine.specs.Operators.{Refusals, first_refusal, pause_refusals, paused, resume_refusals, resumed, terminated, restart_refusals, reopened, restarted, is_redone, superseded, superseded_where, retry_refusals, retried, node_to_rerun, rerun_refusals, is_from, rerun_from, rerun, node_to_skip, skip_refusals, skipped_at, skipped}
use Rattle.wf_machine.proofs.RecordLemmas.{Alike, alike_added, canceled_number, canceled_over, canceled_stays, each_added, each_through, held_before, retries_added, retries_through, rising_added, rising_through, runs_open, sound_canceled}

-- ---- refusals

abbrev rest_of : Refusals → Refusals
rest_of [] = []
rest_of (x ∷ rest) = rest

not_first : (holds : Bool) (refusal : Refusal) (rest : Refusals) → first_refusal ((holds, refusal) ∷ rest) ≡ None → (holds ≡ false) × (first_refusal rest ≡ None)
not_first true refusal rest h = cc
not_first false refusal rest h = (refl, h)

not_not : (b : Bool) → not b ≡ false → b ≡ true
not_not true h = refl
not_not false h = cc

paused_open : (status : FlowStatus) → is_paused status ≡ true → flow_is_open status ≡ true
paused_open flow.Running h = refl
paused_open flow.Paused h = refl
paused_open flow.Completed h = cc
paused_open flow.Failed h = cc
paused_open flow.TimedOut h = cc
paused_open flow.Terminated h = cc

-- ---- pause, resume, terminate

-- a flow that may be paused is as open as one that is paused, and so on
pub pause_open : (f : Flow) → first_refusal (pause_refusals f) ≡ None → flow_is_open flow.Paused ≡ flow_is_open f.status
pause_open f k = sym (runs_open f.status (not_not (is_running f.status) (not_first _ _ [] k).0))

pub resume_open : (f : Flow) → first_refusal (resume_refusals f) ≡ None → flow_is_open flow.Running ≡ flow_is_open f.status
resume_open f k = sym (paused_open f.status (not_not (is_paused f.status) (not_first _ _ [] k).0))

-- the flow is open before and after
still_open : (f : Flow) (status : FlowStatus) → IsRecord f → flow_is_open f.status ≡ true → flow_is_open status ≡ true → IsRecord (record f { status = status })
still_open f status h was is = record {
  number = h.number;
  parent = h.parent;
  created = h.created;
  started = h.started;
  end_moment = h.end_moment;
  ended = h.ended ∙ ap not (was ∙ sym is);
  over = λ over. (let no : false ≡ true = sym over ∙ is in absurd cc);
  attempts = h.attempts;
  retries = h.retries;
}

pub paused_kept : (f : Flow) → first_refusal (pause_refusals f) ≡ None → IsRecord f → IsRecord (paused f)
paused_kept f k h = still_open f flow.Paused h (runs_open f.status (not_not (is_running f.status) (not_first _ _ [] k).0)) refl

pub resumed_kept : (f : Flow) → first_refusal (resume_refusals f) ≡ None → IsRecord f → IsRecord (resumed f)
resumed_kept f k h = still_open f flow.Running h (paused_open f.status (not_not (is_paused f.status) (not_first _ _ [] k).0)) refl

pub terminated_kept : (e : ℕ) (reason : List ℕ) (f : Flow) → IsMoment e → IsRecord f → IsRecord (terminated e reason f)
terminated_kept e reason f moment h = record {
  number = h.number;
  parent = h.parent;
  created = h.created;
  started = h.started;
  end_moment = moment;
  ended = refl;
  over = λ x. each_through (IsSound f.def) IsOver (canceled e) f.attempts h.attempts (λ a y. canceled_over e a);
  attempts = each_through (IsSound f.def) (IsSound f.def) (canceled e) f.attempts h.attempts (λ a y. sound_canceled f.def e a y);
  retries = retries_through [] [] (canceled e) f.attempts (canceled_stays e) (λ n a. refl) h.retries;
}

-- ---- attempts that are superseded

abbrev one_where : Bool → Attempt → Attempt
one_where passes a = if passes then superseded a else a

sound_one : (def : FlowDef) (passes : Bool) (a : Attempt) → IsSound def a → IsOver a → IsSound def (one_where passes a)
sound_one def false a h over = h
sound_one def true a h over =
    record { ended = h.ended; superseded = λ x. over; timing = h.timing; scheduled = h.scheduled; retried = h.retried; child = h.child; timed = h.timed; turn = h.turn }

one_stays : (passes : Bool) (a : Attempt)
    → one_where passes a ≡ record (one_where passes a) { number = a.number; node = a.node; iteration = a.iteration; retried = a.retried }
one_stays true a = refl
one_stays false a = refl

one_number : (passes : Bool) (a : Attempt) → (one_where passes a).number ≡ a.number
one_number true a = refl
one_number false a = refl

sound_where : (def : FlowDef) (test : Attempt → List Attempt → Bool) (xs : List Attempt) → Each (IsSound def) xs → Each IsOver xs → Each (IsSound def) (superseded_where test xs)
sound_where def test [] h over = tt
sound_where def test (x ∷ xs) h over = (sound_one def (test x xs) x h.0 over.0, sound_where def test xs h.1 over.1)

retries_where : (test : Attempt → List Attempt → Bool) (before after xs : List Attempt) → Alike before after → AreRetries before xs → AreRetries after (superseded_where test xs)
retries_where test before after [] h r = tt
retries_where test before after (x ∷ xs) h r =
    let one = one_where (test x xs) x in
    let stays = one_stays (test x xs) x in (
      held_before before after x one h stays r.0,
      retries_where test (before ++ x ∷ []) (after ++ one ∷ []) xs (alike_added before after x one h (λ n a. ap (is_same_place n a) (sym stays))) r.1,
    )

rising_where : (low high : ℕ) (test : Attempt → List Attempt → Bool) (xs : List Attempt) → RisingTo low high xs → RisingTo low high (superseded_where test xs)
rising_where low high test [] h = h
rising_where low high test (x ∷ xs) h = rw (one_number (test x xs) x) (h.0, rising_where (x.number.0 + 1) high test xs h.1)

-- ---- restart, retry, rerun

-- a flow that runs once more, with these attempts
again_kept : (e : ℕ) (f : Flow) (input variables : Doc) (attempts : List Attempt) → IsMoment e → IsRecord f → Each (IsSound f.def) attempts → AreRetries [] attempts
    → IsRecord (record (reopened e f) { input = input; variables = variables; attempts = attempts })
again_kept e f input variables attempts moment h sound retries = record {
  number = h.number;
  parent = h.parent;
  created = h.created;
  started = moment;
  end_moment = tt;
  ended = refl;
  over = λ over. (let no : true ≡ false = over in absurd cc);
  attempts = sound;
  retries = retries;
}

pub restarted_kept : (e : ℕ) (f : Flow) → IsMoment e → IsRecord f → IsRecord (restarted e f)
restarted_kept e f moment h = again_kept e f f.input empty_table [] moment h tt tt

-- a flow that isn't refused for being open has ended
is_over : (f : Flow) (child : Bool) (a b : Refusal) (rest : Refusals) → first_refusal ((child, a) ∷ (flow_is_open f.status, b) ∷ rest) ≡ None → flow_is_open f.status ≡ false
is_over f child a b rest k = (not_first (flow_is_open f.status) b rest (not_first child a ((flow_is_open f.status, b) ∷ rest) k).1).0

pub restart_over : (f : Flow) → first_refusal (restart_refusals f) ≡ None → flow_is_open f.status ≡ false
restart_over f k = is_over f _ _ _ (rest_of (rest_of (restart_refusals f))) k

pub retry_over : (f : Flow) → first_refusal (retry_refusals f) ≡ None → flow_is_open f.status ≡ false
retry_over f k = is_over f _ _ _ (rest_of (rest_of (retry_refusals f))) k

pub rerun_over : (task : TaskNo) (f : Flow) → first_refusal (rerun_refusals task f) ≡ None → flow_is_open f.status ≡ false
rerun_over task f k = is_over f _ _ _ (rest_of (rest_of (rerun_refusals task f))) k

again_where : (e : ℕ) (f : Flow) (input : Doc) (test : Attempt → List Attempt → Bool) → IsMoment e → IsRecord f → Each IsOver f.attempts
    → IsRecord (record (reopened e f) { input = input; attempts = superseded_where test f.attempts })
again_where e f input test moment h over =
    again_kept e f input f.variables (superseded_where test f.attempts) moment h (sound_where f.def test f.attempts h.attempts over)
    (retries_where test [] [] f.attempts (λ n a. refl) h.retries)

pub retried_kept : (e : ℕ) (f : Flow) → first_refusal (retry_refusals f) ≡ None → IsMoment e → IsRecord f → IsRecord (retried e f)
retried_kept e f k moment h = again_where e f f.input (is_redone f.def) moment h (h.over (retry_over f k))

pub rerun_kept : (e : ℕ) (task : TaskNo) (input : Option Doc) (f : Flow) → first_refusal (rerun_refusals task f) ≡ None → IsMoment e → IsRecord f → IsRecord (rerun e task input f)
rerun_kept e task input f k moment h = by_node (node_to_rerun f.def task f.attempts) (h.over (rerun_over task f k)) where
  by_node : (o : Option ℕ) → Each IsOver f.attempts → IsRecord (option_map_or (λ node. rerun_from e input node f) o f)
  by_node None over = h
  by_node (Some node) over = again_where e f (unwrap_or input f.input) (is_from node) moment h over

-- ---- skip

sound_skipped : (def : FlowDef) (e : ℕ) (number : TaskNo) (input output : Doc) (n : Node) → IsSound def (skipped_at e number input output n)
sound_skipped def e number input output n = record {
  ended = refl;
  superseded = λ x. refl;
  timing = λ x. cc;
  scheduled = λ x. cc;
  retried = λ x. cc;
  child = λ x. cc;
  timed = λ x y. cc;
  turn = λ x y. cc;
}

pub skipped_kept : (limits : Limits) (next_task e : ℕ) (reference : List ℕ) (input output : Doc) (number : TaskNo) (f : Flow) → first_refusal (skip_refusals limits reference next_task f) ≡ None
    → IsRecord f → IsRecord (skipped e reference input output number f)
skipped_kept limits next_task e reference input output number f k h = by_node (node_to_skip f.def.nodes reference) (not_not (is_running f.status) (not_first _ _ (rest_of (skip_refusals limits reference next_task f)) k).0) where
  by_node : (o : Option Node) → is_running f.status ≡ true
      → IsRecord (option_map_or (λ n. record f { attempts = f.attempts ++ skipped_at e number input output n ∷ [] }) o f)
  by_node None runs = h
  by_node (Some n) runs = record {
    number = h.number;
    parent = h.parent;
    created = h.created;
    started = h.started;
    end_moment = h.end_moment;
    ended = h.ended;
    over = λ over. (let no : false ≡ true = sym over ∙ runs_open f.status runs in absurd cc);
    attempts = each_added (IsSound f.def) f.attempts (skipped_at e number input output n) h.attempts (sound_skipped f.def e number input output n);
    retries = retries_added [] f.attempts (skipped_at e number input output n) h.retries tt;
  }

-- the same where the node is known
pub skip_added : (limits : Limits) (e : ℕ) (reference : List ℕ) (input output : Doc) (number : TaskNo) (f : Flow) (n : Node) → node_to_skip f.def.nodes reference ≡ Some n
    → first_refusal (skip_refusals limits reference number.0 f) ≡ None → IsRecord f → IsRecord (record f { attempts = f.attempts ++ skipped_at e number input output n ∷ [] })
skip_added limits e reference input output number f n there k h =
    subst (λ o. IsRecord (option_map_or (λ m. record f { attempts = f.attempts ++ skipped_at e number input output m ∷ [] }) o f)) there
    (skipped_kept limits number.0 e reference input output number f k h)

second_false : (a b : Bool) → (a || b) ≡ false → b ≡ false
second_false true b h = cc
second_false false b h = h

-- a number is left
pub skip_numbered : (limits : Limits) (reference : List ℕ) (next_task : ℕ) (f : Flow) → first_refusal (skip_refusals limits reference next_task f) ≡ None → next_task < 2 ^ 56
skip_numbered limits reference next_task f k =
    let all = skip_refusals limits reference next_task f in
    let one = (not_first _ _ (rest_of all) k).1 in
    let two = (not_first _ _ (rest_of (rest_of all)) one).1 in
    let three = (not_first _ _ (rest_of (rest_of (rest_of all))) two).1 in
    let left : nat_le (2 ^ 56) next_task ≡ false = second_false (nat_le limits.attempts (length f.attempts)) _ (not_first _ _ [] three).0 in
    grind (arith, nat_tests)

-- ---- numbers

pub rising_terminated : (low high e : ℕ) (reason : List ℕ) (f : Flow) → RisingTo low high f.attempts → RisingTo low high (terminated e reason f).attempts
rising_terminated low high e reason f h = rising_through low high (canceled e) f.attempts (λ a. canceled_number e a) h

pub rising_retried : (low high e : ℕ) (f : Flow) → RisingTo low high f.attempts → RisingTo low high (retried e f).attempts
rising_retried low high e f h = rising_where low high (is_redone f.def) f.attempts h

pub rising_rerun : (low high e : ℕ) (task : TaskNo) (input : Option Doc) (f : Flow) → RisingTo low high f.attempts → RisingTo low high (rerun e task input f).attempts
rising_rerun low high e task input f h = by_node (node_to_rerun f.def task f.attempts) where
  by_node : (o : Option ℕ) → RisingTo low high (option_map_or (λ node. rerun_from e input node f) o f).attempts
  by_node None = h
  by_node (Some node) = rising_where low high (is_from node) f.attempts h

rising_to : (low high higher : ℕ) (xs : List Attempt) → RisingTo low high xs → high ≤ higher → RisingTo low higher xs
rising_to low high higher [] h k = omega (arith, h, k)
rising_to low high higher (x ∷ xs) h k = (h.0, rising_to (x.number.0 + 1) high higher xs h.1 k)

pub rising_skipped : (low high e : ℕ) (reference : List ℕ) (input output : Doc) (number : TaskNo) (f : Flow) → RisingTo low high f.attempts → high ≤ number.0
    → RisingTo low (number.0 + 1) (skipped e reference input output number f).attempts
rising_skipped low high e reference input output number f h k = by_node (node_to_skip f.def.nodes reference) where
  by_node : (o : Option Node) → RisingTo low (number.0 + 1) (option_map_or (λ n. record f { attempts = f.attempts ++ skipped_at e number input output n ∷ [] }) o f).attempts
  by_node None = rising_to low high (number.0 + 1) f.attempts h (omega (arith, k))
  by_node (Some n) = rising_added low high f.attempts (skipped_at e number input output n) h k
