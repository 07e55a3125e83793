-- What changes of attempts and flows keep.
use Rattle.std.proofs.Common.{◌≡◌, ℕ, ◌+◌, ◌<◌, ◌≤◌, ◌*◌, ◌^◌, Bool, true, false, not, if◌then◌else◌, is_some, IsSomeAnd, List, [], ◌∷◌, ◌++◌, map, Option, None, Some, Ok, Err, refl, sym, subst, ap, ◌∙◌, append_assoc, append-nil, arith}
use Rattle.std.specs.Option.{option_map_or}
use Rattle.wf_names.specs.declared.ids.TaskNo.{TaskNo}
use Rattle.wf_names.specs.declared.statuses.FlowStatus.{FlowStatus}
use Rattle.wf_names.specs.declared.statuses.TaskStatus.{TaskStatus}
use Rattle.wf_names.specs.declared.statuses.TaskStatus.TheVariants.{Scheduled, InProgress, Completed, Skipped, Failed, FailedWithTerminalError, Canceled}
use Rattle.wf_doc.specs.declared.doc.Doc.{Doc}
use Rattle.wf_names.specs.declared.refusals.Refusal.TheVariants.{NotUpdatable}
use Rattle.wf_names.specs.TaskStatus.{task_is_open}
use Rattle.wf_names.specs.FlowStatus.{flow_is_open}
use Rattle.wf_machine.specs.declared.definition.FlowDef.{FlowDef}
use Rattle.wf_machine.specs.declared.calling.TaskResult.{TaskResult}
use Rattle.wf_machine.specs.State.{Attempt, Flow, attempt_numbered, canceled, flow_ended, with_attempt}
use Rattle.wf_machine.specs.Records.{AreRetries, Each, Held, IsMoment, IsDueMoment, IsInRange, IsOver, IsRetry, IsSound, IsRecord, is_kind_at, is_loop, is_scheduled, is_simple, is_skipped, is_sub_flow}
use Rattle.wf_machine.specs.Tasks.{handed_out, is_result_status, or_moment, result_applied, takes_update}
use Rattle.wf_machine.specs.Operators.{cleared, reopened, superseded}
use Rattle.wf_flow.specs.Changes.{update_answer}
use Rattle.wf_flow.specs.Keeping.{IsSoundFlow}
use Rattle.wf_flow.proofs.KinLemmas.{IsKin, IsSameWork, each_append, each_found, each_map, each_with, found_number, kin_itself, kin_map, kin_with, retries_kin}
use Rattle.wf_flow.proofs.PlaceLemmas.{rising_with}
use Rattle.wf_flow.proofs.RisingLemmas.{rising_map}

-- ---- statuses

open_not_skipped : (s : TaskStatus) → task_is_open s ≡ true → is_skipped s ≡ false
open_not_skipped Skipped is = let no : ⊥ = cc in absurd no
open_not_skipped s is = refl

pub scheduled_open : (s : TaskStatus) → is_scheduled s ≡ true → task_is_open s ≡ true
scheduled_open Scheduled is = refl
scheduled_open s is = let no : ⊥ = cc in absurd no

pub not_both : (b : Bool) → b ≡ true → b ≡ false → ⊥
not_both b is isnt = cc

-- ---- ranges

held_moment : (o : Option ℕ) (e : ℕ) → Held IsMoment o → IsMoment e → Held IsMoment (or_moment o e)
held_moment None e held moment = moment
held_moment (Some first) e held moment = held

pub range_handed : (e : ℕ) (worker : List ℕ) (a : Attempt) → IsMoment e → IsInRange a → IsInRange (handed_out e worker a)
range_handed e worker a moment range =
    record {
      number = range.number;
      scheduled = range.scheduled;
      ready = range.ready;
      first_poll = held_moment a.first_poll e range.first_poll moment;
      last_poll = moment;
      updated = moment;
      ended = range.ended;
      wait = range.wait;
      retried = range.retried;
      child = range.child;
    }

range_if_canceled : (t : Bool) (e : ℕ) (a : Attempt) → IsMoment e → IsInRange a → IsInRange (if t then record a { status = Canceled; updated = e; ended = Some e } else a)
range_if_canceled false e a moment range = range
range_if_canceled true e a moment range =
    record {
      number = range.number;
      scheduled = range.scheduled;
      ready = range.ready;
      first_poll = range.first_poll;
      last_poll = range.last_poll;
      updated = moment;
      ended = moment;
      wait = range.wait;
      retried = range.retried;
      child = range.child;
    }

pub range_canceled : (e : ℕ) (a : Attempt) → IsMoment e → IsInRange a → IsInRange (canceled e a)
range_canceled e a moment range = range_if_canceled (task_is_open a.status) e a moment range

pub range_superseded : (a : Attempt) → IsInRange a → IsInRange (superseded a)
range_superseded a range =
    record {
      number = range.number;
      scheduled = range.scheduled;
      ready = range.ready;
      first_poll = range.first_poll;
      last_poll = range.last_poll;
      updated = range.updated;
      ended = range.ended;
      wait = range.wait;
      retried = range.retried;
      child = range.child;
    }

due_after : (e callback : ℕ) → IsMoment e → callback ≤ 2147483647 → IsDueMoment (e + 1000 * callback)
due_after e callback moment small = omega arith

-- an attempt with these fields set anew
pub range_of : (a b : Attempt) → IsInRange a → a.number ≡ b.number → a.scheduled ≡ b.scheduled → a.first_poll ≡ b.first_poll → a.last_poll ≡ b.last_poll → a.wait ≡ b.wait → a.retried ≡ b.retried → a.child ≡ b.child → IsDueMoment b.ready → IsMoment b.updated → Held IsMoment b.ended → IsInRange b
range_of a b range number scheduled first last wait retried child ready updated ended =
    record {
      number = subst (λ n. n.0 < 2 ^ 56) number range.number;
      scheduled = subst IsMoment scheduled range.scheduled;
      ready = ready;
      first_poll = subst (Held IsMoment) first range.first_poll;
      last_poll = subst IsMoment last range.last_poll;
      updated = updated;
      ended = ended;
      wait = subst (Held IsDueMoment) wait range.wait;
      retried = subst (Held (λ n. n.0 < 2 ^ 56)) retried range.retried;
      child = subst (Held (λ n. n.0 < 2 ^ 56)) child range.child;
    }

pub range_result : (s : TaskStatus) (simple : Bool) (e : ℕ) (r : TaskResult) (a : Attempt) → is_result_status s ≡ true → r.callback ≤ 2147483647 → IsMoment e → IsInRange a → IsInRange (result_applied e simple (record r { status = s }) a)
range_result InProgress true e r a proper small moment range =
    range_of a (result_applied e true (record r { status = InProgress }) a) range refl refl refl refl refl refl refl (due_after e r.callback moment small) moment range.ended
range_result InProgress false e r a proper small moment range =
    range_of a (result_applied e false (record r { status = InProgress }) a) range refl refl refl refl refl refl refl range.ready moment range.ended
range_result Completed simple e r a proper small moment range =
    range_of a (result_applied e simple (record r { status = Completed }) a) range refl refl refl refl refl refl refl range.ready moment moment
range_result Failed simple e r a proper small moment range =
    range_of a (result_applied e simple (record r { status = Failed }) a) range refl refl refl refl refl refl refl range.ready moment moment
range_result FailedWithTerminalError simple e r a proper small moment range =
    range_of a (result_applied e simple (record r { status = FailedWithTerminalError }) a) range refl refl refl refl refl refl refl range.ready moment moment
range_result s simple e r a proper small moment range = let no : ⊥ = cc in absurd no

-- ---- what an attempt is to the definition of its flow

pub sound_changed : (def : FlowDef) (a b : Attempt) → IsSound def a → task_is_open a.status ≡ true → IsKin a b → IsSameWork a b → a.superseded ≡ b.superseded → is_some b.ended ≡ not (task_is_open b.status) → (is_scheduled b.status ≡ true → is_kind_at is_simple def b.node ≡ true) → IsSound def b
sound_changed def a b sound is kin work superseded ended scheduled =
    record {
      ended = ended;
      superseded = λ set. absurd (not_both (task_is_open a.status) is (sound.superseded (superseded ∙ set)));
      timing = λ has. subst (λ n. is_kind_at is_simple def n ≡ true) kin.node (sound.timing (ap is_some work.timing ∙ has));
      scheduled = scheduled;
      retried = λ has. subst (λ n. is_kind_at is_simple def n ≡ true) kin.node (sound.retried (ap is_some kin.retried ∙ has));
      child = λ has. subst (λ n. is_kind_at is_sub_flow def n ≡ true) kin.node (sound.child (ap is_some work.child ∙ has));
      timed = λ simple other.
          sym (ap is_some work.timing)
          ∙ sound.timed (subst (λ n. is_kind_at is_simple def n ≡ true) (sym kin.node) simple) (open_not_skipped a.status is);
      turn = λ loop still.
          subst (λ t. 0 < t) work.turn (sound.turn (subst (λ n. is_kind_at is_loop def n ≡ true) (sym kin.node) loop) is);
    }

pub sound_handed : (def : FlowDef) (e : ℕ) (worker : List ℕ) (a : Attempt) → IsSound def a → task_is_open a.status ≡ true → IsSound def (handed_out e worker a)
sound_handed def e worker a sound is =
    sound_changed def a (handed_out e worker a) sound is (record { number = refl; node = refl; iteration = refl; retried = refl }) (record { child = refl; timing = refl; turn = refl }) refl (sound.ended ∙ ap not is) (λ isnt. absurd (not_both false isnt refl))

sound_if_canceled : (t : Bool) (def : FlowDef) (e : ℕ) (a : Attempt) → task_is_open a.status ≡ t → IsSound def a → IsSound def (if t then record a { status = Canceled; updated = e; ended = Some e } else a)
sound_if_canceled false def e a is sound = sound
sound_if_canceled true def e a is sound =
    sound_changed def a (record a { status = Canceled; updated = e; ended = Some e }) sound is (record { number = refl; node = refl; iteration = refl; retried = refl }) (record { child = refl; timing = refl; turn = refl }) refl refl (λ isnt. absurd (not_both false isnt refl))

pub sound_canceled : (def : FlowDef) (e : ℕ) (a : Attempt) → IsSound def a → IsSound def (canceled e a)
sound_canceled def e a sound = sound_if_canceled (task_is_open a.status) def e a refl sound

pub sound_superseded : (def : FlowDef) (a : Attempt) → IsSound def a → task_is_open a.status ≡ false → IsSound def (superseded a)
sound_superseded def a sound over =
    record {
      ended = sound.ended;
      superseded = λ set. over;
      timing = sound.timing;
      scheduled = sound.scheduled;
      retried = sound.retried;
      child = sound.child;
      timed = sound.timed;
      turn = sound.turn;
    }

pub sound_result : (s : TaskStatus) (simple : Bool) (def : FlowDef) (e : ℕ) (r : TaskResult) (a : Attempt) → is_result_status s ≡ true → simple ≡ is_kind_at is_simple def a.node → IsSound def a → task_is_open a.status ≡ true → IsSound def (result_applied e simple (record r { status = s }) a)
sound_result InProgress true def e r a proper kind sound is =
    sound_changed def a (result_applied e true (record r { status = InProgress }) a) sound is (record { number = refl; node = refl; iteration = refl; retried = refl }) (record { child = refl; timing = refl; turn = refl }) refl (sound.ended ∙ ap not is) (λ set. sym kind)
sound_result InProgress false def e r a proper kind sound is =
    sound_changed def a (result_applied e false (record r { status = InProgress }) a) sound is (record { number = refl; node = refl; iteration = refl; retried = refl }) (record { child = refl; timing = refl; turn = refl }) refl (sound.ended ∙ ap not is) (λ isnt. absurd (not_both false isnt refl))
sound_result Completed simple def e r a proper kind sound is =
    sound_changed def a (result_applied e simple (record r { status = Completed }) a) sound is (record { number = refl; node = refl; iteration = refl; retried = refl }) (record { child = refl; timing = refl; turn = refl }) refl refl (λ isnt. absurd (not_both false isnt refl))
sound_result Failed simple def e r a proper kind sound is =
    sound_changed def a (result_applied e simple (record r { status = Failed }) a) sound is (record { number = refl; node = refl; iteration = refl; retried = refl }) (record { child = refl; timing = refl; turn = refl }) refl refl (λ isnt. absurd (not_both false isnt refl))
sound_result FailedWithTerminalError simple def e r a proper kind sound is =
    sound_changed def a (result_applied e simple (record r { status = FailedWithTerminalError }) a) sound is (record { number = refl; node = refl; iteration = refl; retried = refl }) (record { child = refl; timing = refl; turn = refl }) refl refl (λ isnt. absurd (not_both false isnt refl))
sound_result s simple def e r a proper kind sound is = let no : ⊥ = cc in absurd no

pub kin_result : (s : TaskStatus) (simple : Bool) (e : ℕ) (r : TaskResult) (a : Attempt) → IsKin a (result_applied e simple (record r { status = s }) a)
kin_result InProgress true e r a = record { number = refl; node = refl; iteration = refl; retried = refl }
kin_result InProgress false e r a = record { number = refl; node = refl; iteration = refl; retried = refl }
kin_result s simple e r a = record { number = refl; node = refl; iteration = refl; retried = refl }

kin_if_canceled : (t : Bool) (e : ℕ) (a : Attempt) → IsKin a (if t then record a { status = Canceled; updated = e; ended = Some e } else a)
kin_if_canceled true e a = record { number = refl; node = refl; iteration = refl; retried = refl }
kin_if_canceled false e a = kin_itself a

kin_canceled : (e : ℕ) (a : Attempt) → IsKin a (canceled e a)
kin_canceled e a = kin_if_canceled (task_is_open a.status) e a

-- ---- flows

-- one attempt is changed
pub record IsKeeping (def : FlowDef) (a b : Attempt) : Type 0 where
  pub kin : IsKin a b
  pub over : IsOver a → IsOver b
  pub range : IsInRange b
  pub sound : IsSound def b

pub kept_with : (f : Flow) (task : TaskNo) (a b : Attempt) → IsSoundFlow f → attempt_numbered task f.attempts ≡ Some a → IsKeeping f.def a b → IsSoundFlow (record f { attempts = with_attempt b f.attempts })
kept_with f task a b kept found keeping =
    let number : b.number.0 ≡ task.0 = sym (ap (λ n. n.0) keeping.kin.number) ∙ found_number task f.attempts a found in
    let found_so : attempt_numbered b.number f.attempts ≡ Some a = subst (λ n. attempt_numbered (record { 0 = n }) f.attempts ≡ Some a) (sym number) found in
    record {
      rising = rising_with 1 b f.attempts kept.rising;
      ranges = each_with IsInRange b f.attempts kept.ranges keeping.range;
      sound = record {
        number = kept.sound.number;
        parent = kept.sound.parent;
        created = kept.sound.created;
        started = kept.sound.started;
        end_moment = kept.sound.end_moment;
        ended = kept.sound.ended;
        over = λ closed.
            each_with IsOver b f.attempts (kept.sound.over closed) (keeping.over (each_found IsOver task f.attempts a (kept.sound.over closed) found));
        attempts = each_with (IsSound f.def) b f.attempts kept.sound.attempts keeping.sound;
        retries = retries_kin [] [] f.attempts (with_attempt b f.attempts) tt (kin_with 1 b a f.attempts kept.rising found_so keeping.kin) kept.sound.retries;
      };
    }

over_if_canceled : (t : Bool) (e : ℕ) (a : Attempt) → task_is_open a.status ≡ t → IsOver (if t then record a { status = Canceled; updated = e; ended = Some e } else a)
over_if_canceled true e a is = refl
over_if_canceled false e a is = is

-- each attempt has ended once its flow has
each_over : (e : ℕ) (xs : List Attempt) → Each IsOver (map (canceled e) xs)
each_over e [] = tt
each_over e (x ∷ xs) = (over_if_canceled (task_is_open x.status) e x refl, each_over e xs)

pub kept_ended : (status : FlowStatus) (e : ℕ) (f : Flow) → flow_is_open status ≡ false → IsMoment e → IsSoundFlow f → IsSoundFlow (flow_ended status e f)
kept_ended status e f closed moment kept =
    record {
      rising = rising_map (canceled e) (λ a. (kin_canceled e a).number) 1 f.attempts kept.rising;
      ranges = each_map IsInRange IsInRange (canceled e) (λ a range. range_canceled e a moment range) f.attempts kept.ranges;
      sound = record {
        number = kept.sound.number;
        parent = kept.sound.parent;
        created = kept.sound.created;
        started = kept.sound.started;
        end_moment = moment;
        ended = sym (ap not closed);
        over = λ is. each_over e f.attempts;
        attempts = each_map (IsSound f.def) (IsSound f.def) (canceled e) (λ a sound. sound_canceled f.def e a sound) f.attempts kept.sound.attempts;
        retries = retries_kin [] [] f.attempts (map (canceled e) f.attempts) tt (kin_map (canceled e) (kin_canceled e) f.attempts) kept.sound.retries;
      };
    }

pub kept_cleared : (f : Flow) → IsSoundFlow f → IsSoundFlow (cleared f)
kept_cleared f kept =
    record {
      rising = tt;
      ranges = tt;
      sound = record {
        number = kept.sound.number;
        parent = kept.sound.parent;
        created = kept.sound.created;
        started = kept.sound.started;
        end_moment = kept.sound.end_moment;
        ended = kept.sound.ended;
        over = λ closed. tt;
        attempts = tt;
        retries = tt;
      };
    }

pub kept_reopened : (e : ℕ) (f : Flow) → IsMoment e → IsSoundFlow f → IsSoundFlow (reopened e f)
kept_reopened e f moment kept =
    record {
      rising = kept.rising;
      ranges = kept.ranges;
      sound = record {
        number = kept.sound.number;
        parent = kept.sound.parent;
        created = kept.sound.created;
        started = moment;
        end_moment = tt;
        ended = refl;
        over = λ isnt. absurd (not_both true refl isnt);
        attempts = kept.sound.attempts;
        retries = kept.sound.retries;
      };
    }

-- these fields are free
pub kept_other : (f : Flow) (input variables output : Doc) (reason : List ℕ) (noted : Bool) → IsSoundFlow f → IsSoundFlow (record f { input = input; variables = variables; output = output; reason = reason; noted = noted })
kept_other f input variables output reason noted kept =
    record {
      rising = kept.rising;
      ranges = kept.ranges;
      sound = record {
        number = kept.sound.number;
        parent = kept.sound.parent;
        created = kept.sound.created;
        started = kept.sound.started;
        end_moment = kept.sound.end_moment;
        ended = kept.sound.ended;
        over = kept.sound.over;
        attempts = kept.sound.attempts;
        retries = kept.sound.retries;
      };
    }

pub kept_started : (f : Flow) (e : ℕ) → IsMoment e → IsSoundFlow f → IsSoundFlow (record f { started = e })
kept_started f e moment kept =
    record {
      rising = kept.rising;
      ranges = kept.ranges;
      sound = record {
        number = kept.sound.number;
        parent = kept.sound.parent;
        created = kept.sound.created;
        started = moment;
        end_moment = kept.sound.end_moment;
        ended = kept.sound.ended;
        over = kept.sound.over;
        attempts = kept.sound.attempts;
        retries = kept.sound.retries;
      };
    }

-- ---- an attempt that is found by its number

-- the lists before and after a change of the attempt of that number
pub kept_found : (f : Flow) (task : TaskNo) (change : Attempt → Attempt) (ys : List Attempt) → IsSoundFlow f → IsSomeAnd (attempt_numbered task f.attempts) (λ a. ys ≡ with_attempt (change a) f.attempts) → ((a : Attempt) → attempt_numbered task f.attempts ≡ Some a → IsInRange a → IsSound f.def a → IsKeeping f.def a (change a)) → IsSoundFlow (record f { attempts = ys })
kept_found f task change ys kept put keeps = by_found (attempt_numbered task f.attempts) refl put where
  by_found : (o : Option Attempt) → attempt_numbered task f.attempts ≡ o → IsSomeAnd o (λ a. ys ≡ with_attempt (change a) f.attempts) → IsSoundFlow (record f { attempts = ys })
  by_found None found is = absurd is
  by_found (Some a) found is =
      let keeping = keeps a found (each_found IsInRange task f.attempts a kept.ranges found) (each_found (IsSound f.def) task f.attempts a kept.sound.attempts found) in
      subst (λ zs. IsSoundFlow (record f { attempts = zs })) (sym is) (kept_with f task a (change a) kept found keeping)

-- a fact of the attempt, where it is there
pub at_found : (P : Attempt → Type 0) (o : Option Attempt) (a : Attempt) → IsSomeAnd o P → o ≡ Some a → P a
at_found P None a is found = absurd is
at_found P (Some x) a is found = let same : x ≡ a = cc in subst P same is

pub some_and : (P Q : Attempt → Type 0) (o : Option Attempt) → IsSomeAnd o P → ((a : Attempt) → o ≡ Some a → P a → Q a) → IsSomeAnd o Q
some_and P Q None is step = is
some_and P Q (Some a) is step = step a refl is

pub keeping_handed : (def : FlowDef) (e : ℕ) (worker : List ℕ) (a : Attempt) → IsMoment e → task_is_open a.status ≡ true → IsInRange a → IsSound def a → IsKeeping def a (handed_out e worker a)
keeping_handed def e worker a moment is range sound =
    record {
      kin = record { number = refl; node = refl; iteration = refl; retried = refl };
      over = λ over. absurd (not_both (task_is_open a.status) is over);
      range = range_handed e worker a moment range;
      sound = sound_handed def e worker a sound is;
    }

pub keeping_superseded : (def : FlowDef) (a : Attempt) → task_is_open a.status ≡ false → IsInRange a → IsSound def a → IsKeeping def a (superseded a)
keeping_superseded def a over range sound =
    record {
      kin = record { number = refl; node = refl; iteration = refl; retried = refl };
      over = λ so. so;
      range = range_superseded a range;
      sound = sound_superseded def a sound over;
    }

pub keeping_result : (def : FlowDef) (e : ℕ) (simple : Bool) (r : TaskResult) (a : Attempt) → is_result_status r.status ≡ true → r.callback ≤ 2147483647 → IsMoment e → simple ≡ is_kind_at is_simple def a.node → task_is_open a.status ≡ true → IsInRange a → IsSound def a → IsKeeping def a (result_applied e simple r a)
keeping_result def e simple r a proper small moment kind is range sound =
    record {
      kin = kin_result r.status simple e r a;
      over = λ over. absurd (not_both (task_is_open a.status) is over);
      range = range_result r.status simple e r a proper small moment range;
      sound = sound_result r.status simple def e r a proper kind sound is;
    }

-- an attempt that takes a result is open
answered_open : (t u : Bool) → (if not t then Ok false else if u then Ok true else Err NotUpdatable) ≡ Ok true → t ≡ true
answered_open true u answer = refl
answered_open false u answer = let no : ⊥ = cc in absurd no

pub taken_open : (def : FlowDef) (o : Option Attempt) (a : Attempt) → update_answer def o ≡ Ok true → o ≡ Some a → task_is_open a.status ≡ true
taken_open def None a taken found = let no : ⊥ = cc in absurd no
taken_open def (Some x) a taken found =
    let same : x ≡ a = cc in
    subst (λ w. task_is_open w.status ≡ true) same (answered_open (task_is_open x.status) (is_kind_at takes_update def x.node) taken)

pub kind_found : (def : FlowDef) (o : Option Attempt) (a : Attempt) → o ≡ Some a → option_map_or (λ x. is_kind_at is_simple def x.node) o false ≡ is_kind_at is_simple def a.node
kind_found def None a found = let no : ⊥ = cc in absurd no
kind_found def (Some x) a found = let same : x ≡ a = cc in ap (λ w. is_kind_at is_simple def w.node) same

-- ---- what makes a record of a changed one

retries_append : (before xs : List Attempt) (a : Attempt) → AreRetries before xs → IsRetry (before ++ xs) a → AreRetries before (xs ++ a ∷ [])
retries_append before [] a retries retry = (subst (λ l. IsRetry l a) (append-nil before) retry, tt)
retries_append before (x ∷ xs) a retries retry =
    (retries.0, retries_append (before ++ x ∷ []) xs a retries.1 (subst (λ l. IsRetry l a) (sym (append_assoc before (x ∷ []) xs)) retry))

-- an attempt is added to an open flow
pub record_added : (f : Flow) (a : Attempt) → IsRecord f → flow_is_open f.status ≡ true → IsSound f.def a → IsRetry f.attempts a → IsRecord (record f { attempts = f.attempts ++ a ∷ [] })
record_added f a kept is sound retry =
    record {
      number = kept.number;
      parent = kept.parent;
      created = kept.created;
      started = kept.started;
      end_moment = kept.end_moment;
      ended = kept.ended;
      over = λ isnt. absurd (not_both (flow_is_open f.status) is isnt);
      attempts = each_append (IsSound f.def) f.attempts a kept.attempts sound;
      retries = retries_append [] f.attempts a kept.retries retry;
    }

-- a flow stays as open as it was
pub kept_status : (f : Flow) (status : FlowStatus) → flow_is_open status ≡ flow_is_open f.status → IsSoundFlow f → IsSoundFlow (record f { status = status })
kept_status f status same kept =
    record {
      rising = kept.rising;
      ranges = kept.ranges;
      sound = record {
        number = kept.sound.number;
        parent = kept.sound.parent;
        created = kept.sound.created;
        started = kept.sound.started;
        end_moment = kept.sound.end_moment;
        ended = kept.sound.ended ∙ ap not (sym same);
        over = λ isnt. kept.sound.over (sym same ∙ isnt);
        attempts = kept.sound.attempts;
        retries = kept.sound.retries;
      };
    }

-- a SCHEDULED attempt, and one that has ended, found by a test
pub some_scheduled : (o : Option Attempt) → option_map_or (λ a. is_scheduled a.status) o false ≡ true → IsSomeAnd o (λ a. is_scheduled a.status ≡ true)
some_scheduled None found = let no : ⊥ = cc in absurd no
some_scheduled (Some a) found = found

not_open : (b : Bool) → not b ≡ true → b ≡ false
not_open true isnt = let no : ⊥ = cc in absurd no
not_open false isnt = refl

pub some_over : (o : Option Attempt) → option_map_or (λ a. not (task_is_open a.status)) o false ≡ true → IsSomeAnd o (λ a. task_is_open a.status ≡ false)
some_over None found = let no : ⊥ = cc in absurd no
some_over (Some a) found = not_open (task_is_open a.status) found
