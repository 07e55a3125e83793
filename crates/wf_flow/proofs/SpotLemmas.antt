-- What a change of the attempt at a place keeps.
use Rattle.std.proofs.Common.{◌≡◌, ℕ, zero, suc, ◌+◌, ◌<◌, ◌≤◌, true, false, not, List, [], ◌∷◌, length, get_or, slice_get, slice_set, Option, None, Some, IfSome, refl, sym, ap, ◌∙◌, subst, arith}
use Rattle.wf_doc.specs.declared.doc.Doc.{Doc}
use Rattle.wf_names.specs.declared.statuses.TaskStatus.{TaskStatus}
use Rattle.wf_names.specs.declared.statuses.TaskStatus.TheVariants.{Scheduled, InProgress, Completed, CompletedWithErrors, Failed, FailedWithTerminalError, TimedOut, Canceled, Skipped}
use Rattle.wf_names.specs.TaskStatus.{task_is_open}
use Rattle.wf_machine.specs.declared.definition.FlowDef.{FlowDef}
use Rattle.wf_machine.specs.State.{Attempt, Flow, RisingFrom}
use Rattle.wf_machine.specs.Records.{Each, IsMoment, IsInRange, IsOver, IsSound, is_skipped}
use Rattle.wf_flow.specs.Changes.{at_place, closed, forgiven, has_failed, poll_noted, total_noted, turned}
use Rattle.wf_flow.specs.Keeping.{IsSoundFlow}
use Rattle.wf_flow.proofs.KinLemmas.{AreKin, IsKin, kin_same, retries_kin}
use Rattle.wf_flow.proofs.RecordLemmas.{IsKeeping, not_both, range_of, scheduled_open, sound_changed}

-- ---- lists

-- a write at a place is the change there
pub spot_written : (p : ℕ) (change : Attempt → Attempt) (xs : List Attempt) (a b : Attempt) → p < length xs → a ≡ get_or xs p a → b ≡ change a → slice_set xs p b ≡ at_place p change xs
spot_written p change [] a b within is changed = refl
spot_written zero change (x ∷ xs) a b within is changed = ap (λ y. y ∷ xs) (changed ∙ ap change is)
spot_written (suc p) change (x ∷ xs) a b within is changed = ap (λ ys. x ∷ ys) (spot_written p change xs a b (omega arith) is changed)

-- there is nothing to change beyond the end
pub spot_missing : (p : ℕ) (change : Attempt → Attempt) (xs : List Attempt) → length xs ≤ p → at_place p change xs ≡ xs
spot_missing p change [] beyond = refl
spot_missing zero change (x ∷ xs) beyond = absurd (omega arith)
spot_missing (suc p) change (x ∷ xs) beyond = ap (λ ys. x ∷ ys) (spot_missing p change xs (omega arith))

-- a fact of the attempt at the place
pub spot_fact : (P : Attempt → Type 0) (o : Option Attempt) (a : Attempt) → IfSome o P → o ≡ Some a → P a
spot_fact P None a is there = let no : ⊥ = cc in absurd no
spot_fact P (Some x) a is there = let same : x ≡ a = cc in subst P same is

spot_kin : (p : ℕ) (change : Attempt → Attempt) (xs : List Attempt) → ((a : Attempt) → IsKin a (change a)) → AreKin xs (at_place p change xs)
spot_kin p change [] kin = tt
spot_kin zero change (x ∷ xs) kin = (kin x, kin_same xs)
spot_kin (suc p) change (x ∷ xs) kin = (record { number = refl; node = refl; iteration = refl; retried = refl }, spot_kin p change xs kin)

spot_rising : (low p : ℕ) (change : Attempt → Attempt) (xs : List Attempt) → ((a : Attempt) → IsKin a (change a)) → RisingFrom low xs → RisingFrom low (at_place p change xs)
spot_rising low p change [] kin rising = tt
spot_rising low zero change (x ∷ xs) kin rising =
    let same = ap (λ n. n.0) (kin x).number in (subst (λ n. low ≤ n) same rising.0, subst (λ n. RisingFrom (n + 1) xs) same rising.1)
spot_rising low (suc p) change (x ∷ xs) kin rising = (rising.0, spot_rising (x.number.0 + 1) p change xs kin rising.1)

-- ---- flows

-- the change is of an attempt that fits its flow, and leaves one
abbrev pub KeepsFit : Flow → ℕ → (Attempt → Attempt) → Type 0
KeepsFit f p change = (a : Attempt) → slice_get f.attempts p ≡ Some a → IsInRange a → IsSound f.def a → IsKeeping f.def a (change a)

-- each attempt with two facts
both_each : (P Q R : Attempt → Type 0) (p : ℕ) (change : Attempt → Attempt) (xs : List Attempt) → ((a : Attempt) → slice_get xs p ≡ Some a → P a → Q a → R a → R (change a))
    → Each P xs → Each Q xs → Each R xs → Each R (at_place p change xs)
both_each P Q R p change [] keeps ps qs rs = tt
both_each P Q R zero change (x ∷ xs) keeps ps qs rs = (keeps x refl ps.0 qs.0 rs.0, rs.1)
both_each P Q R (suc p) change (x ∷ xs) keeps ps qs rs = (rs.0, both_each P Q R p change xs keeps ps.1 qs.1 rs.1)

pub spot_kept : (f : Flow) (p : ℕ) (change : Attempt → Attempt) → ((a : Attempt) → IsKin a (change a)) → IsSoundFlow f → KeepsFit f p change
    → IsSoundFlow (record f { attempts = at_place p change f.attempts })
spot_kept f p change kin kept keeps =
    let ranges = kept.ranges in
    let sounds = kept.sound.attempts in
    record {
      rising = spot_rising 1 p change f.attempts kin kept.rising;
      ranges = both_each IsInRange (IsSound f.def) IsInRange p change f.attempts (λ a there range sound same. (keeps a there range sound).range) ranges sounds ranges;
      sound = record {
        number = kept.sound.number;
        parent = kept.sound.parent;
        created = kept.sound.created;
        started = kept.sound.started;
        end_moment = kept.sound.end_moment;
        ended = kept.sound.ended;
        over = λ is. both_each IsInRange (IsSound f.def) IsOver p change f.attempts (λ a there range sound over. (keeps a there range sound).over over) ranges sounds (kept.sound.over is);
        attempts = both_each IsInRange (IsSound f.def) (IsSound f.def) p change f.attempts (λ a there range sound same. (keeps a there range sound).sound) ranges sounds sounds;
        retries = retries_kin [] [] f.attempts (at_place p change f.attempts) tt (spot_kin p change f.attempts kin) kept.sound.retries;
      };
    }

-- ---- the changes

pub keeping_closed : (def : FlowDef) (e : ℕ) (status : TaskStatus) (reason : Option (List ℕ)) (output : Option Doc) (a : Attempt) → IsMoment e → task_is_open status ≡ false
    → task_is_open a.status ≡ true → IsInRange a → IsSound def a → IsKeeping def a (closed e status reason output a)
keeping_closed def e status reason output a moment terminal opened range sound =
    record {
      kin = record { number = refl; node = refl; iteration = refl; retried = refl };
      over = λ over. terminal;
      range = range_of a (closed e status reason output a) range refl refl refl refl refl refl refl range.ready moment moment;
      sound = sound_changed def a (closed e status reason output a) sound opened (record { number = refl; node = refl; iteration = refl; retried = refl })
          (record { child = refl; timing = refl; turn = refl }) refl (ap not (sym terminal)) (λ is. absurd (not_both (task_is_open status) (scheduled_open status is) terminal));
    }

pub keeping_poll_noted : (def : FlowDef) (e : ℕ) (reason : List ℕ) (a : Attempt) → IsMoment e → IsInRange a → IsSound def a → IsKeeping def a (poll_noted e reason a)
keeping_poll_noted def e reason a moment range sound =
    record {
      kin = record { number = refl; node = refl; iteration = refl; retried = refl };
      over = λ over. over;
      range = range_of a (poll_noted e reason a) range refl refl refl refl refl refl refl range.ready moment range.ended;
      sound = record {
        ended = sound.ended;
        superseded = sound.superseded;
        timing = sound.timing;
        scheduled = sound.scheduled;
        retried = sound.retried;
        child = sound.child;
        timed = sound.timed;
        turn = sound.turn;
      };
    }

pub keeping_total_noted : (def : FlowDef) (e : ℕ) (reason : List ℕ) (a : Attempt) → IsMoment e → IsInRange a → IsSound def a → IsKeeping def a (total_noted e reason a)
keeping_total_noted def e reason a moment range sound =
    record {
      kin = record { number = refl; node = refl; iteration = refl; retried = refl };
      over = λ over. over;
      range = range_of a (total_noted e reason a) range refl refl refl refl refl refl refl range.ready moment range.ended;
      sound = record {
        ended = sound.ended;
        superseded = sound.superseded;
        timing = sound.timing;
        scheduled = sound.scheduled;
        retried = sound.retried;
        child = sound.child;
        timed = sound.timed;
        turn = sound.turn;
      };
    }

failed_over : (status : TaskStatus) → has_failed status ≡ true → (task_is_open status ≡ false) × (is_skipped status ≡ false)
failed_over Scheduled failed = cc
failed_over InProgress failed = cc
failed_over Completed failed = cc
failed_over CompletedWithErrors failed = cc
failed_over Failed failed = (refl, refl)
failed_over FailedWithTerminalError failed = (refl, refl)
failed_over TimedOut failed = (refl, refl)
failed_over Canceled failed = (refl, refl)
failed_over Skipped failed = cc

pub keeping_forgiven : (def : FlowDef) (e : ℕ) (a : Attempt) → IsMoment e → has_failed a.status ≡ true → IsInRange a → IsSound def a → IsKeeping def a (forgiven e a)
keeping_forgiven def e a moment failed range sound =
    let was = failed_over a.status failed in
    record {
      kin = record { number = refl; node = refl; iteration = refl; retried = refl };
      over = λ over. refl;
      range = range_of a (forgiven e a) range refl refl refl refl refl refl refl range.ready moment range.ended;
      sound = record {
        ended = sound.ended ∙ ap not was.0;
        superseded = λ is. refl;
        timing = sound.timing;
        scheduled = λ is. cc;
        retried = sound.retried;
        child = sound.child;
        timed = λ simple other. sound.timed simple was.1;
        turn = λ loop still. cc;
      };
    }

pub keeping_turned : (def : FlowDef) (e : ℕ) (output : Doc) (turn : ℕ) (a : Attempt) → IsMoment e → 0 < turn → IsInRange a → IsSound def a → IsKeeping def a (turned e output turn a)
keeping_turned def e output turn a moment some range sound =
    record {
      kin = record { number = refl; node = refl; iteration = refl; retried = refl };
      over = λ over. over;
      range = range_of a (turned e output turn a) range refl refl refl refl refl refl refl range.ready moment range.ended;
      sound = record {
        ended = sound.ended;
        superseded = sound.superseded;
        timing = sound.timing;
        scheduled = sound.scheduled;
        retried = sound.retried;
        child = sound.child;
        timed = sound.timed;
        turn = λ loop still. some;
      };
    }
