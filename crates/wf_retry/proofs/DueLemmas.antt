-- The first of the passed deadlines is the earliest of all, where that has passed.
use Rattle.std.proofs.Common.{◌≡◌, ℕ, zero, suc, Bool, true, false, if◌then◌else◌, nat_le, nat_lt, List, [], ◌∷◌, map, filter, slice_get, Option, None, Some, refl, ap, ◌∙◌, arith}
use Rattle.std.proofs.lemmas.Bool.Decides.{nat_tests}
use Rattle.std.specs.Prelude.{option_and_then, option_map}
use Rattle.wf_names.specs.TaskStatus.{task_is_open}
use Rattle.wf_machine.specs.declared.timed.Cause.{Cause}
use Rattle.wf_machine.specs.declared.timed.Cause.TheVariants.{Poll, Response, Total, Wait}
use Rattle.wf_machine.specs.Sight.{seen}
use Rattle.wf_machine.specs.State.{Attempt}
use Rattle.wf_time.specs.Deadlines.{deadline, deadlines_of, earliest, first_of}
use Rattle.wf_rules.specs.Rules.{past_due, timing_at}
use Rattle.wf_rules.specs.Sight.{Sight, cause_of, clocked, has_passed, put_in, sorted}
use Rattle.wf_retry.specs.Reading.{acts_due, cause_due, deadline_of, first_cause, passed}

abbrev Deadline : Type 0
Deadline = ℕ × Cause

abbrev front : List Deadline → Option Deadline
front [] = None
front (d ∷ ds) = Some d

front_put : (d : Deadline) (ds : List Deadline) → front (put_in d ds) ≡ first_of (Some d) (front ds)
front_put d [] = refl
front_put d (x ∷ xs) = by_order (nat_le d.0 x.0) (nat_lt x.0 d.0) refl refl where
  by_order : (s t : Bool) → nat_le d.0 x.0 ≡ s → nat_lt x.0 d.0 ≡ t → front (if s then d ∷ x ∷ xs else x ∷ put_in d xs) ≡ (if t then Some x else Some d)
  by_order true true before after = absurd (grind (arith, nat_tests))
  by_order true false before after = refl
  by_order false true before after = refl
  by_order false false before after = absurd (grind (arith, nat_tests))

-- sorted deadlines begin with the earliest
front_sorted : (ds : List Deadline) → front (sorted ds) ≡ earliest ds
front_sorted [] = refl
front_sorted (d ∷ ds) = front_put d (sorted ds) ∙ ap (first_of (Some d)) (front_sorted ds)

-- a deadline, where it has passed
abbrev kept : ℕ → Option Deadline → Option Deadline
kept e None = None
kept e (Some d) = if nat_le d.0 e then Some d else None

kept_one : (e : ℕ) (d : Deadline) (s : Bool) → nat_le d.0 e ≡ s → first_of (if s then Some d else None) None ≡ (if s then Some d else None)
kept_one e d true is = refl
kept_one e d false is = refl

-- of two deadlines, by which of them have passed and which is earlier
kept_two : (d x : Deadline) (e : ℕ) (s t u : Bool) → nat_le d.0 e ≡ s → nat_le x.0 e ≡ t → nat_lt x.0 d.0 ≡ u
    → (if s then first_of (Some d) (if t then Some x else None) else (if t then Some x else None)) ≡ kept e (if u then Some x else Some d)
kept_two d x e true true true p q r = rw (r, q) refl
kept_two d x e true true false p q r = rw (r, p) refl
kept_two d x e true false true p q r = absurd (grind (arith, nat_tests))
kept_two d x e true false false p q r = rw p refl
kept_two d x e false true true p q r = rw q refl
kept_two d x e false true false p q r = absurd (grind (arith, nat_tests))
kept_two d x e false false true p q r = rw q refl
kept_two d x e false false false p q r = rw p refl

kept_first : (e : ℕ) (d : Deadline) (o : Option Deadline) → (if nat_le d.0 e then first_of (Some d) (kept e o) else kept e o) ≡ kept e (first_of (Some d) o)
kept_first e d None = by_test (nat_le d.0 e) where
  by_test : (s : Bool) → (if s then Some d else None) ≡ (if s then Some d else None)
  by_test true = refl
  by_test false = refl
kept_first e d (Some x) = kept_two d x e (nat_le d.0 e) (nat_le x.0 e) (nat_lt x.0 d.0) refl refl refl

-- the earliest of those that have passed
earliest_passed : (e : ℕ) (ds : List Deadline) → earliest (filter (has_passed e) ds) ≡ kept e (earliest ds)
earliest_passed e [] = refl
earliest_passed e (d ∷ ds) = by_test (nat_le d.0 e) (earliest_passed e ds) ∙ kept_first e d (earliest ds) where
  by_test : (s : Bool) → earliest (filter (has_passed e) ds) ≡ kept e (earliest ds)
      → earliest (if s then d ∷ filter (has_passed e) ds else filter (has_passed e) ds) ≡ (if s then first_of (Some d) (kept e (earliest ds)) else kept e (earliest ds))
  by_test true h = ap (first_of (Some d)) h
  by_test false h = h

cause_front : (ds : List Deadline) → first_cause (map cause_of ds) ≡ option_map cause_of (front ds)
cause_front [] = refl
cause_front (d ∷ ds) = refl

cause_kept : (e : ℕ) (o : Option Deadline) → option_map cause_of (kept e o) ≡ option_and_then (passed e) o
cause_kept e None = refl
cause_kept e (Some d) = by_test (nat_le d.0 e) where
  by_test : (s : Bool) → option_map cause_of (if s then Some d else None) ≡ (if s then Some d.1 else None)
  by_test true = refl
  by_test false = refl

first_passed : (e : ℕ) (ds : List Deadline) → first_cause (map cause_of (sorted (filter (has_passed e) ds))) ≡ option_and_then (passed e) (earliest ds)
first_passed e ds =
    cause_front (sorted (filter (has_passed e) ds))
    ∙ ap (option_map cause_of) (front_sorted (filter (has_passed e) ds) ∙ earliest_passed e ds)
    ∙ cause_kept e (earliest ds)

-- the first cause is that of the earliest deadline, where that has passed
pub cause_first : (e : ℕ) (a : Attempt) → cause_due e a ≡ option_and_then (passed e) (deadline_of a)
cause_first e a = by_open (task_is_open a.status) where
  by_open : (t : Bool) → first_cause (map cause_of (sorted (filter (has_passed e) (if t then deadlines_of a.timing (clocked a) else []))))
      ≡ option_and_then (passed e) (if t then deadline a.timing (clocked a) else None)
  by_open true = first_passed e (deadlines_of a.timing (clocked a))
  by_open false = refl

-- ---- acts

timing_there : (p : ℕ) (xs : List Attempt) (a : Attempt) → slice_get xs p ≡ Some a → timing_at p (map seen xs) ≡ a.timing
timing_there p [] a there = cc
timing_there zero (x ∷ xs) a there = let same : x ≡ a = cc in ap (λ (y : Attempt). y.timing) same
timing_there (suc p) (x ∷ xs) a there = timing_there p xs a there

by_cause : (s : Sight) (p : ℕ) (cause : Cause) → past_due s p cause ≡ acts_due (timing_at p s.attempts) p cause
by_cause s p Poll = refl
by_cause s p Response = refl
by_cause s p Total = refl
by_cause s p Wait = refl

-- what is done reads the timing of that attempt alone
pub due_acts : (s : Sight) (p : ℕ) (cause : Cause) (xs : List Attempt) (a : Attempt) → s.attempts ≡ map seen xs → slice_get xs p ≡ Some a → past_due s p cause ≡ acts_due a.timing p cause
due_acts s p cause xs a same there =
    by_cause s p cause ∙ ap (λ timing. acts_due timing p cause) (ap (timing_at p) same ∙ timing_there p xs a there)
