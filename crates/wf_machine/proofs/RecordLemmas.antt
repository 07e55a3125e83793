-- What changes of attempts leave of a flow that can be kept.
use Rattle.std.proofs.Common.{◌≡◌, ℕ, ◌+◌, ◌≤◌, Bool, true, false, if◌then◌else◌, ◌||◌, List, [], ◌∷◌, ◌++◌, map, length, Option, None, Some, refl, sym, ap, ◌∙◌, append_assoc, subst, arith}
use Rattle.std.proofs.lemmas.List.{append-nil}
use Rattle.std.specs.List.{list_any}
use Rattle.wf_names.specs.FlowStatus.{flow_is_open}
use Rattle.wf_names.specs.TaskStatus.{task_is_open}
use Rattle.wf_names.specs.declared.ids.TaskNo.{TaskNo}
use Rattle.wf_names.specs.declared.statuses.TaskStatus.{TaskStatus}
use Rattle.wf_names.specs.declared.statuses.TaskStatus.TheVariants as task
use Rattle.wf_names.specs.declared.statuses.FlowStatus.{FlowStatus}
use Rattle.wf_names.specs.declared.statuses.FlowStatus.TheVariants as flow
use Rattle.wf_machine.specs.declared.definition.FlowDef.{FlowDef}
use Rattle.wf_machine.specs.State.{Attempt, RisingTo, canceled}
use Rattle.wf_machine.specs.Records.{Each, Held, IsOver, IsSound, IsRetry, AreRetries, is_same_place, is_skipped}
use Rattle.wf_machine.specs.Statuses.{is_running}

-- ---- lists

pub each_added : {T : Type 0} (P : T → Type 0) (xs : List T) (x : T) → Each P xs → P x → Each P (xs ++ x ∷ [])
each_added P [] x h p = (p, tt)
each_added P (y ∷ ys) x h p = (h.0, each_added P ys x h.1 p)

pub each_through : {T : Type 0} (P Q : T → Type 0) (c : T → T) (xs : List T) → Each P xs → ((x : T) → P x → Q (c x)) → Each Q (map c xs)
each_through P Q c [] h k = tt
each_through P Q c (x ∷ xs) h k = (k x h.0, each_through P Q c xs h.1 k)

-- ---- retries

pub retries_added : (before xs : List Attempt) (a : Attempt) → AreRetries before xs → IsRetry (before ++ xs) a → AreRetries before (xs ++ a ∷ [])
retries_added before [] a h r = (subst (λ ys. IsRetry ys a) (append-nil before) r, tt)
retries_added before (x ∷ xs) a h r =
    (h.0, retries_added (before ++ x ∷ []) xs a h.1 (subst (λ ys. IsRetry ys a) (sym (append_assoc before (x ∷ []) xs)) r))

-- two lists with the same attempts, as far as retries go
abbrev pub Alike : List Attempt → List Attempt → Type 0
Alike xs ys = (n : TaskNo) (a : Attempt) → list_any (is_same_place n a) xs ≡ list_any (is_same_place n a) ys

-- a change that leaves an attempt where it is
abbrev pub Stays : (Attempt → Attempt) → Type 0
Stays c = (a : Attempt) → c a ≡ record (c a) { number = a.number; node = a.node; iteration = a.iteration; retried = a.retried }

pub alike_added : (xs ys : List Attempt) (x y : Attempt) → Alike xs ys → ((n : TaskNo) (a : Attempt) → is_same_place n a x ≡ is_same_place n a y) → Alike (xs ++ x ∷ []) (ys ++ y ∷ [])
alike_added xs ys x y h k = λ n a. any_more n a xs x ∙ rw (h n a, k n a) refl ∙ sym (any_more n a ys y) where
  any_more : (n : TaskNo) (a : Attempt) (xs : List Attempt) (x : Attempt) → list_any (is_same_place n a) (xs ++ x ∷ []) ≡ (list_any (is_same_place n a) xs || (is_same_place n a x || false))
  any_more n a [] x = refl
  any_more n a (z ∷ zs) x = by_first (is_same_place n a z) (any_more n a zs x) where
    by_first : (b : Bool) → list_any (is_same_place n a) (zs ++ x ∷ []) ≡ (list_any (is_same_place n a) zs || (is_same_place n a x || false))
        → (b || list_any (is_same_place n a) (zs ++ x ∷ [])) ≡ ((b || list_any (is_same_place n a) zs) || (is_same_place n a x || false))
    by_first true h = refl
    by_first false h = h

pub held_before : (before after : List Attempt) (a b : Attempt) → Alike before after → b ≡ record b { number = a.number; node = a.node; iteration = a.iteration; retried = a.retried } → IsRetry before a → IsRetry after b
held_before before after a b h k r = subst (λ (z : Attempt). IsRetry after z) (sym k) (by_retried a.retried r) where
  by_retried : (o : Option TaskNo) → Held (λ n. list_any (is_same_place n a) before ≡ true) o → Held (λ n. list_any (is_same_place n a) after ≡ true) o
  by_retried None r = tt
  by_retried (Some n) r = sym (h n a) ∙ r

pub retries_alike : (before after xs : List Attempt) → Alike before after → AreRetries before xs → AreRetries after xs
retries_alike before after [] h r = tt
retries_alike before after (x ∷ xs) h r = (held_before before after x x h refl r.0, retries_alike (before ++ x ∷ []) (after ++ x ∷ []) xs (alike_added before after x x h (λ n a. refl)) r.1)

pub retries_through : (before after : List Attempt) (c : Attempt → Attempt) (xs : List Attempt) → Stays c → Alike before after → AreRetries before xs → AreRetries after (map c xs)
retries_through before after c [] k h r = tt
retries_through before after c (x ∷ xs) k h r =
    (held_before before after x (c x) h (k x) r.0, retries_through (before ++ x ∷ []) (after ++ c x ∷ []) c xs k (alike_added before after x (c x) h (λ n a. ap (is_same_place n a) (sym (k x)))) r.1)

-- ---- attempts that are canceled

pub open_not_skipped : (status : TaskStatus) → task_is_open status ≡ true → is_skipped status ≡ false
open_not_skipped task.Scheduled h = refl
open_not_skipped task.InProgress h = refl
open_not_skipped task.Completed h = cc
open_not_skipped task.CompletedWithErrors h = cc
open_not_skipped task.Failed h = cc
open_not_skipped task.FailedWithTerminalError h = cc
open_not_skipped task.TimedOut h = cc
open_not_skipped task.Canceled h = cc
open_not_skipped task.Skipped h = cc

pub sound_canceled : (def : FlowDef) (e : ℕ) (a : Attempt) → IsSound def a → IsSound def (canceled e a)
sound_canceled def e a h = by_open (task_is_open a.status) refl where
  by_open : (b : Bool) → task_is_open a.status ≡ b → IsSound def (if b then record a { status = task.Canceled; updated = e; ended = Some e } else a)
  by_open false x = h
  by_open true x =
      record {
        ended = refl;
        superseded = λ y. refl;
        timing = h.timing;
        scheduled = λ y. cc;
        retried = h.retried;
        child = h.child;
        timed = λ y z. h.timed y (open_not_skipped a.status x);
        turn = λ y z. cc;
      }

pub canceled_over : (e : ℕ) (a : Attempt) → IsOver (canceled e a)
canceled_over e a = by_open (task_is_open a.status) refl where
  by_open : (b : Bool) → task_is_open a.status ≡ b → task_is_open (if b then record a { status = task.Canceled; updated = e; ended = Some e } else a).status ≡ false
  by_open true x = refl
  by_open false x = x

pub canceled_stays : (e : ℕ) → Stays (canceled e)
canceled_stays e a = by_open (task_is_open a.status) where
  by_open : (b : Bool) → (if b then record a { status = task.Canceled; updated = e; ended = Some e } else a)
      ≡ record (if b then record a { status = task.Canceled; updated = e; ended = Some e } else a) { number = a.number; node = a.node; iteration = a.iteration; retried = a.retried }
  by_open true = refl
  by_open false = refl

pub canceled_number : (e : ℕ) (a : Attempt) → (canceled e a).number ≡ a.number
canceled_number e a = by_open (task_is_open a.status) where
  by_open : (b : Bool) → (if b then record a { status = task.Canceled; updated = e; ended = Some e } else a).number ≡ a.number
  by_open true = refl
  by_open false = refl

-- ---- statuses

pub runs_open : (status : FlowStatus) → is_running status ≡ true → flow_is_open status ≡ true
runs_open flow.Running h = refl
runs_open flow.Paused h = cc
runs_open flow.Completed h = cc
runs_open flow.Failed h = cc
runs_open flow.TimedOut h = cc
runs_open flow.Terminated h = cc

-- ---- numbers

-- so many numbers need room
pub rising_length : (low high : ℕ) (xs : List Attempt) → RisingTo low high xs → low + length xs ≤ high
rising_length low high [] h = omega (arith, h)
rising_length low high (x ∷ xs) h = let more = rising_length (x.number.0 + 1) high xs h.1 in let first = h.0 in omega (arith, more, first)

pub rising_added : (low high : ℕ) (xs : List Attempt) (a : Attempt) → RisingTo low high xs → high ≤ a.number.0 → RisingTo low (a.number.0 + 1) (xs ++ a ∷ [])
rising_added low high [] a h le = (omega (arith, h, le), omega arith)
rising_added low high (x ∷ xs) a h le = (h.0, rising_added (x.number.0 + 1) high xs a h.1 le)

pub rising_through : (low high : ℕ) (c : Attempt → Attempt) (xs : List Attempt) → ((a : Attempt) → (c a).number ≡ a.number) → RisingTo low high xs → RisingTo low high (map c xs)
rising_through low high c [] k h = h
rising_through low high c (x ∷ xs) k h = rw (k x) (h.0, rising_through (x.number.0 + 1) high c xs k h.1)
