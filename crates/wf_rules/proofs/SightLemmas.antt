-- What an act makes of the sight, whatever the moment and the numbers.
use Rattle.std.proofs.Common.{◌≡◌, ℕ, zero, suc, ◌+◌, ◌*◌, ◌≤◌, Bool, true, false, if◌then◌else◌, ◌&&◌, ◌==◌, not, nat_le, List, [], ◌∷◌, ◌++◌, map, filter, Option, None, Some, option_and_then, ap, refl, sym, ◌∙◌, arith}
use Rattle.std.proofs.lemmas.Bool.Decides.{nat_tests}
use Rattle.std.specs.List.{find}
use Rattle.wf_doc.specs.declared.doc.Doc.{Doc}
use Rattle.wf_names.specs.declared.ids.FlowNo.{FlowNo}
use Rattle.wf_names.specs.declared.statuses.TaskStatus.TheVariants.{Canceled, CompletedWithErrors}
use Rattle.wf_names.specs.TaskStatus.{task_is_open}
use Rattle.wf_rules.specs.declared.acting.Act.{Act}
use Rattle.wf_rules.specs.declared.acting.Act.TheVariants.{Add, Close, Note, Forgive, Turn as TurnOn, Variables, NoteFlow, End}
use Rattle.wf_rules.specs.declared.acting.Alert.{Alert}
use Rattle.wf_rules.specs.declared.acting.Alert.TheVariants.{Poll as PollAlert, Total as TotalAlert}
use Rattle.wf_rules.specs.declared.acting.Begin.{Begin}
use Rattle.wf_rules.specs.declared.acting.Begin.TheVariants.{Queued, Held, Over}
use Rattle.wf_rules.specs.declared.acting.Child.{Child}
use Rattle.wf_rules.specs.declared.acting.Child.TheVariants.{Nothing, Flow as NewFlow, TooLarge, Refused}
use Rattle.wf_rules.specs.declared.acting.NewAttempt.{NewAttempt}
use Rattle.wf_rules.specs.declared.acting.Outcome.{Outcome}
use Rattle.wf_rules.specs.declared.acting.Outcome.TheVariants.{Completed, Failed, FailedWithTerminalError, TimedOut}
use Rattle.wf_machine.specs.declared.sight.ChildState.{ChildState}
use Rattle.wf_machine.specs.declared.timed.Cause.{Cause}
use Rattle.wf_machine.specs.declared.timed.Cause.TheVariants.{Poll, Response, Total, Wait}
use Rattle.wf_machine.specs.declared.timed.Timing.{Timing}
use Rattle.wf_time.specs.Deadlines.{due_after, due_from, due_by_timing, due_by_wait, deadlines_of}
use Rattle.wf_machine.specs.State.{Attempt, canceled}
use Rattle.wf_machine.specs.Sight.{Seen, seen}
use Rattle.wf_rules.specs.Sight.{Sight, sight, clocked, is_in_progress, deadlines, has_passed, cause_of, put_in, sorted, due, has_ended, ended_child, child_end}
use Rattle.wf_rules.specs.Acts.{Turn, or_as_it_was, at_place, status_of, first_status, first_timing, child_number, added, closed, noted, forgiven, turned, make}
use Rattle.wf_rules.specs.Plans.{AllBelow}

-- ---- acts without moments and numbers

abbrev pub seen_new : NewAttempt → Seen
seen_new n =
    record {
      node = n.node;
      iteration = n.iteration;
      status = first_status n.begin;
      input = n.input;
      output = n.output;
      reason = n.reason;
      retry = n.retry;
      timing = first_timing n.begin;
      turn = n.turn;
      superseded = false;
    }

-- a new attempt is due at once where it waits for 0 seconds
abbrev pub due_new : Begin → List Cause
due_new (Held (Some delay)) = if delay == 0 then Wait ∷ [] else []
due_new _ = []

-- the causes that are left once one is noted
abbrev pub but : Alert → Cause → Bool
but PollAlert Poll = false
but TotalAlert Total = false
but _ _ = true

abbrev pub seen_closed : Outcome → Option (List ℕ) → Option Doc → Seen → Seen
seen_closed outcome reason output s =
    record s { status = status_of outcome; reason = or_as_it_was s.reason reason; output = or_as_it_was s.output output }

abbrev pub seen_noted : List ℕ → Seen → Seen
seen_noted reason s = record s { reason = reason }

abbrev pub seen_forgiven : Seen → Seen
seen_forgiven s = record s { status = CompletedWithErrors }

abbrev pub seen_turned : Doc → ℕ → Seen → Seen
seen_turned output turn s = record s { output = output; turn = turn }

abbrev pub seen_canceled : Seen → Seen
seen_canceled s = if task_is_open s.status then record s { status = Canceled } else s

abbrev pub as_it_is : {S : Type 0} → S → S
as_it_is x = x

abbrev pub nothing : {S T : Type 0} → S → List T
nothing x = []

abbrev pub none_of : {S T : Type 0} → S → Option T
none_of x = None

-- the sight with an attempt changed that stays open, and with one that is over
abbrev pub shown_at : ℕ → (Seen → Seen) → Sight → Sight
shown_at p change s = record s { attempts = at_place p change s.attempts; due = at_place p as_it_is s.due; ended = at_place p as_it_is s.ended }

abbrev pub shown_over : ℕ → (Seen → Seen) → Sight → Sight
shown_over p change s = record s { attempts = at_place p change s.attempts; due = at_place p nothing s.due; ended = at_place p none_of s.ended }

abbrev pub shown : Act → Sight → Sight
shown (Add n) s = record s { attempts = s.attempts ++ seen_new n ∷ []; due = s.due ++ due_new n.begin ∷ []; ended = s.ended ++ None ∷ [] }
shown (Close p outcome reason output) s = shown_over p (seen_closed outcome reason output) s
shown (Note p alert reason) s =
    record s { attempts = at_place p (seen_noted reason) s.attempts; due = at_place p (filter (but alert)) s.due; ended = at_place p as_it_is s.ended }
shown (Forgive p) s = shown_over p seen_forgiven s
shown (TurnOn p output turn) s = shown_at p (seen_turned output turn) s
shown (Variables variables) s = record s { variables = variables }
shown (NoteFlow reason) s = record s { over_time = false }
shown (End status reason output) s =
    record s { status = status; attempts = map seen_canceled s.attempts; due = map nothing s.due; ended = map none_of s.ended }

-- ---- lists

map_at_place : {S T : Type 0} (f : S → T) (c : S → S) (g : T → T) (p : ℕ) (xs : List S) → ((x : S) → f (c x) ≡ g (f x)) → map f (at_place p c xs) ≡ at_place p g (map f xs)
map_at_place f c g p [] h = refl
map_at_place f c g zero (x ∷ xs) h = ap (λ y. y ∷ map f xs) (h x)
map_at_place f c g (suc p) (x ∷ xs) h = ap (λ ys. f x ∷ ys) (map_at_place f c g p xs h)

map_through : {S T : Type 0} (f : S → T) (c : S → S) (g : T → T) (xs : List S) → ((x : S) → f (c x) ≡ g (f x)) → map f (map c xs) ≡ map g (map f xs)
map_through f c g [] h = refl
map_through f c g (x ∷ xs) h = rw (h x, map_through f c g xs h) refl

map_added : {S T : Type 0} (f : S → T) (xs : List S) (x : S) → map f (xs ++ x ∷ []) ≡ map f xs ++ f x ∷ []
map_added f [] x = refl
map_added f (y ∷ ys) x = ap (λ zs. f y ∷ zs) (map_added f ys x)

-- ---- attempts that are over

due_closed : (e : ℕ) (o : Outcome) (r : Option (List ℕ)) (out : Option Doc) (a : Attempt) → due e (closed e o r out a) ≡ []
due_closed e Completed r out a = refl
due_closed e Failed r out a = refl
due_closed e FailedWithTerminalError r out a = refl
due_closed e TimedOut r out a = refl

end_closed : (cs : List ChildState) (e : ℕ) (o : Outcome) (r : Option (List ℕ)) (out : Option Doc) (a : Attempt) → child_end cs (closed e o r out a) ≡ None
end_closed cs e Completed r out a = refl
end_closed cs e Failed r out a = refl
end_closed cs e FailedWithTerminalError r out a = refl
end_closed cs e TimedOut r out a = refl

due_canceled : (e : ℕ) (a : Attempt) → due e (canceled e a) ≡ []
due_canceled e a = by_open (task_is_open a.status) refl where
  by_open : (b : Bool) → task_is_open a.status ≡ b → due e (if b then record a { status = Canceled; updated = e; ended = Some e } else a) ≡ []
  by_open true h = refl
  by_open false h = rw h refl

end_canceled : (cs : List ChildState) (e : ℕ) (a : Attempt) → child_end cs (canceled e a) ≡ None
end_canceled cs e a = by_open (task_is_open a.status) refl where
  by_open : (b : Bool) → task_is_open a.status ≡ b → child_end cs (if b then record a { status = Canceled; updated = e; ended = Some e } else a) ≡ None
  by_open true h = refl
  by_open false h = rw h refl

seen_of_canceled : (e : ℕ) (a : Attempt) → seen (canceled e a) ≡ seen_canceled (seen a)
seen_of_canceled e a = by_open (task_is_open a.status) where
  by_open : (b : Bool) → seen (if b then record a { status = Canceled; updated = e; ended = Some e } else a) ≡ (if b then record (seen a) { status = Canceled } else seen a)
  by_open true = refl
  by_open false = refl

-- ---- a new attempt

-- a poll deadline is never passed as its attempt is made, a wait only where it is of 0 seconds
not_yet : (e d s : ℕ) → (s == 0) ≡ false → nat_le (e + 1000 * d + 1000 * s) e ≡ false
not_yet e d s h = grind (arith, nat_tests)

at_once : (e d : ℕ) → nat_le (e + 1000 * d) e ≡ (d == 0)
at_once e d = grind (arith, nat_tests)

due_of_new : (e : ℕ) (n : NewAttempt) (t : Turn) (b : Begin) → due e (added e (record n { begin = b }) t) ≡ due_new b
due_of_new e n t (Queued timing delay) = by_zero (timing.poll == 0) refl where
  by_zero : (b : Bool) → (timing.poll == 0) ≡ b
      → map cause_of (sorted (filter (has_passed e) ((if not b then (e + 1000 * delay + 1000 * timing.poll, Poll) ∷ [] else []) ++ [] ++ [] ++ []))) ≡ []
  by_zero true h = refl
  by_zero false h = rw (not_yet e delay timing.poll h) refl
due_of_new e n t (Held None) = refl
due_of_new e n t (Held (Some delay)) = rw (at_once e delay) (by_zero (delay == 0)) where
  by_zero : (b : Bool) → map cause_of (sorted (if b then (e + 1000 * delay, Wait) ∷ [] else [])) ≡ (if b then Wait ∷ [] else [])
  by_zero true = refl
  by_zero false = refl
due_of_new e n t (Over Completed) = refl
due_of_new e n t (Over Failed) = refl
due_of_new e n t (Over FailedWithTerminalError) = refl
due_of_new e n t (Over TimedOut) = refl

-- ---- what is due once an alert is noted

abbrev AllFrom : ℕ → List (ℕ × Cause) → Type 0
AllFrom m [] = Unit {0}
AllFrom m (x ∷ xs) = (m ≤ x.0) × AllFrom m xs

abbrev Sorted : List (ℕ × Cause) → Type 0
Sorted [] = Unit {0}
Sorted (x ∷ xs) = AllFrom x.0 xs × Sorted xs

from_lower : (m n : ℕ) (xs : List (ℕ × Cause)) → m ≤ n → AllFrom n xs → AllFrom m xs
from_lower m n [] le h = tt
from_lower m n (x ∷ xs) le h = (let k = h.0 in omega (arith, k, le), from_lower m n xs le h.1)

from_kept : (m : ℕ) (p : ℕ × Cause → Bool) (xs : List (ℕ × Cause)) → AllFrom m xs → AllFrom m (filter p xs)
from_kept m p [] h = tt
from_kept m p (x ∷ xs) h = by_test (p x) (from_kept m p xs h.1) where
  by_test : (b : Bool) → AllFrom m (filter p xs) → AllFrom m (if b then x ∷ filter p xs else filter p xs)
  by_test true k = (h.0, k)
  by_test false k = k

from_put : (m : ℕ) (d : ℕ × Cause) (xs : List (ℕ × Cause)) → m ≤ d.0 → AllFrom m xs → AllFrom m (put_in d xs)
from_put m d [] le h = (le, tt)
from_put m d (x ∷ xs) le h = by_order (nat_le d.0 x.0) (from_put m d xs le h.1) where
  by_order : (b : Bool) → AllFrom m (put_in d xs) → AllFrom m (if b then d ∷ x ∷ xs else x ∷ put_in d xs)
  by_order true k = (le, (h.0, h.1))
  by_order false k = (h.0, k)

sorted_put : (d : ℕ × Cause) (xs : List (ℕ × Cause)) → Sorted xs → Sorted (put_in d xs)
sorted_put d [] h = (tt, tt)
sorted_put d (x ∷ xs) h = by_order (nat_le d.0 x.0) refl (sorted_put d xs h.1) where
  by_order : (b : Bool) → nat_le d.0 x.0 ≡ b → Sorted (put_in d xs) → Sorted (if b then d ∷ x ∷ xs else x ∷ put_in d xs)
  by_order true e k =
      let le : d.0 ≤ x.0 = grind (arith, nat_tests) in
      ((le, from_lower d.0 x.0 xs le h.0), (h.0, h.1))
  by_order false e k =
      let le : x.0 ≤ d.0 = grind (arith, nat_tests) in
      (from_put x.0 d xs le h.0, k)

sorted_sorted : (ds : List (ℕ × Cause)) → Sorted (sorted ds)
sorted_sorted [] = tt
sorted_sorted (d ∷ ds) = sorted_put d (sorted ds) (sorted_sorted ds)

put_first : (d : ℕ × Cause) (xs : List (ℕ × Cause)) → AllFrom d.0 xs → put_in d xs ≡ d ∷ xs
put_first d [] h = refl
put_first d (x ∷ xs) h = let le = h.0 in let e : nat_le d.0 x.0 ≡ true = grind (arith, nat_tests) in rw e refl

kept_put : (p : ℕ × Cause → Bool) (d : ℕ × Cause) (xs : List (ℕ × Cause)) → Sorted xs → filter p (put_in d xs) ≡ (if p d then put_in d (filter p xs) else filter p xs)
kept_put p d [] h = refl
kept_put p d (x ∷ xs) h = by_order (nat_le d.0 x.0) refl (kept_put p d xs h.1) where
  later : (b : Bool) → nat_le d.0 x.0 ≡ true
      → (if b then d ∷ filter p (x ∷ xs) else filter p (x ∷ xs)) ≡ (if b then put_in d (filter p (x ∷ xs)) else filter p (x ∷ xs))
  later false e = refl
  later true e =
      let le : d.0 ≤ x.0 = grind (arith, nat_tests) in
      sym (put_first d (filter p (x ∷ xs)) (from_kept d.0 p (x ∷ xs) (le, from_lower d.0 x.0 xs le h.0)))

  both : (b c : Bool) → nat_le d.0 x.0 ≡ false
      → (if b then x ∷ (if c then put_in d (filter p xs) else filter p xs) else (if c then put_in d (filter p xs) else filter p xs))
      ≡ (if c then put_in d (if b then x ∷ filter p xs else filter p xs) else (if b then x ∷ filter p xs else filter p xs))
  both true true e = rw e refl
  both true false e = refl
  both false true e = refl
  both false false e = refl

  by_order : (b : Bool) → nat_le d.0 x.0 ≡ b → filter p (put_in d xs) ≡ (if p d then put_in d (filter p xs) else filter p xs)
      → filter p (if b then d ∷ x ∷ xs else x ∷ put_in d xs) ≡ (if p d then put_in d (filter p (x ∷ xs)) else filter p (x ∷ xs))
  by_order true e on = later (p d) e
  by_order false e on = ap (λ ys. if p x then x ∷ ys else ys) on ∙ both (p x) (p d) e

kept_sorted : (p : ℕ × Cause → Bool) (ds : List (ℕ × Cause)) → filter p (sorted ds) ≡ sorted (filter p ds)
kept_sorted p [] = refl
kept_sorted p (d ∷ ds) = kept_put p d (sorted ds) (sorted_sorted ds) ∙ rest (p d) (kept_sorted p ds) where
  rest : (b : Bool) → filter p (sorted ds) ≡ sorted (filter p ds)
      → (if b then put_in d (filter p (sorted ds)) else filter p (sorted ds)) ≡ sorted (if b then d ∷ filter p ds else filter p ds)
  rest true h = ap (put_in d) h
  rest false h = h

kept_twice : (p q : ℕ × Cause → Bool) (ds : List (ℕ × Cause)) → filter p (filter q ds) ≡ filter q (filter p ds)
kept_twice p q [] = refl
kept_twice p q (d ∷ ds) = both (p d) (q d) refl refl (kept_twice p q ds) where
  both : (b c : Bool) → p d ≡ b → q d ≡ c → filter p (filter q ds) ≡ filter q (filter p ds)
      → filter p (if c then d ∷ filter q ds else filter q ds) ≡ filter q (if b then d ∷ filter p ds else filter p ds)
  both true true e f h = rw (e, f, h) refl
  both true false e f h = rw (f, h) refl
  both false true e f h = rw (e, h) refl
  both false false e f h = h

kept_causes : (p : Cause → Bool) (ds : List (ℕ × Cause)) → filter p (map cause_of ds) ≡ map cause_of (filter (λ d. p d.1) ds)
kept_causes p [] = refl
kept_causes p (d ∷ ds) = rest (p d.1) (kept_causes p ds) where
  rest : (b : Bool) → filter p (map cause_of ds) ≡ map cause_of (filter (λ d. p d.1) ds)
      → (if b then d.1 ∷ filter p (map cause_of ds) else filter p (map cause_of ds)) ≡ map cause_of (if b then d ∷ filter (λ d. p d.1) ds else filter (λ d. p d.1) ds)
  rest true h = ap (λ xs. d.1 ∷ xs) h
  rest false h = h

kept_more : (p : ℕ × Cause → Bool) (xs ys : List (ℕ × Cause)) → filter p (xs ++ ys) ≡ filter p xs ++ filter p ys
kept_more p [] ys = refl
kept_more p (x ∷ xs) ys = rest (p x) (kept_more p xs ys) where
  rest : (b : Bool) → filter p (xs ++ ys) ≡ filter p xs ++ filter p ys
      → (if b then x ∷ filter p (xs ++ ys) else filter p (xs ++ ys)) ≡ (if b then x ∷ filter p xs else filter p xs) ++ filter p ys
  rest true h = ap (λ zs. x ∷ zs) h
  rest false h = h

-- a deadline of another cause stays, one of this cause goes
after_stays : (p : Cause → Bool) (b : Bool) (s m : ℕ) (c : Cause) → p c ≡ true → filter (λ d. p d.1) (due_after b s m c) ≡ due_after b s m c
after_stays p b s m c h = by_force (b && not (s == 0)) where
  by_force : (z : Bool) → filter (λ (d : ℕ × Cause). p d.1) (if z then (m + 1000 * s, c) ∷ [] else []) ≡ (if z then (m + 1000 * s, c) ∷ [] else [])
  by_force true = rw h refl
  by_force false = refl

after_goes : (p : Cause → Bool) (b : Bool) (s m : ℕ) (c : Cause) → p c ≡ false → filter (λ d. p d.1) (due_after b s m c) ≡ []
after_goes p b s m c h = by_force (b && not (s == 0)) where
  by_force : (z : Bool) → filter (λ (d : ℕ × Cause). p d.1) (if z then (m + 1000 * s, c) ∷ [] else []) ≡ []
  by_force true = rw h refl
  by_force false = refl

from_stays : (p : Cause → Bool) (b : Bool) (s : ℕ) (m : Option ℕ) (c : Cause) → p c ≡ true → filter (λ d. p d.1) (due_from b s m c) ≡ due_from b s m c
from_stays p b s None c h = refl
from_stays p b s (Some m) c h = after_stays p b s m c h

from_goes : (p : Cause → Bool) (b : Bool) (s : ℕ) (m : Option ℕ) (c : Cause) → p c ≡ false → filter (λ d. p d.1) (due_from b s m c) ≡ []
from_goes p b s None c h = refl
from_goes p b s (Some m) c h = after_goes p b s m c h

wait_stays : (p : Cause → Bool) (o : Option ℕ) → p Wait ≡ true → filter (λ d. p d.1) (due_by_wait o) ≡ due_by_wait o
wait_stays p None h = refl
wait_stays p (Some d) h = rw h refl

-- one that isn't in force is none
not_in_force : (b : Bool) (s m : ℕ) (c : Cause) → due_after (b && false) s m c ≡ []
not_in_force true s m c = refl
not_in_force false s m c = refl

not_from : (s : ℕ) (m : Option ℕ) (c : Cause) → due_from false s m c ≡ []
not_from s None c = refl
not_from s (Some m) c = refl

timing_noted : (e : ℕ) (alert : Alert) (reason : List ℕ) (o : Option Timing) (a : Attempt)
    → due_by_timing o (clocked (noted e alert reason a)) ≡ filter (λ d. but alert d.1) (due_by_timing o (clocked a))
timing_noted e PollAlert reason None a = refl
timing_noted e TotalAlert reason None a = refl
timing_noted e PollAlert reason (Some t) a =
    let p : ℕ × Cause → Bool = λ d. but PollAlert d.1 in
    let held = is_in_progress a.status in
    let polls = due_after (not held && not a.poll_noted) t.poll a.ready Poll in
    let responses = due_after held t.response a.last_poll Response in
    let totals = due_from (not a.total_noted) t.total a.first_poll Total in
    let one = not_in_force (not held) t.poll a.ready Poll in
    let goes : filter p polls ≡ [] = after_goes (but PollAlert) (not held && not a.poll_noted) t.poll a.ready Poll refl in
    let two : filter p responses ≡ responses = after_stays (but PollAlert) held t.response a.last_poll Response refl in
    let three : filter p totals ≡ totals = from_stays (but PollAlert) (not a.total_noted) t.total a.first_poll Total refl in
    rw one (sym (kept_more p (polls ++ responses) totals ∙ ap (λ r. r ++ filter p totals) (kept_more p polls responses) ∙ rw (goes, two, three) refl))
timing_noted e TotalAlert reason (Some t) a =
    let p : ℕ × Cause → Bool = λ d. but TotalAlert d.1 in
    let held = is_in_progress a.status in
    let polls = due_after (not held && not a.poll_noted) t.poll a.ready Poll in
    let responses = due_after held t.response a.last_poll Response in
    let totals = due_from (not a.total_noted) t.total a.first_poll Total in
    let one = not_from t.total a.first_poll Total in
    let two : filter p polls ≡ polls = after_stays (but TotalAlert) (not held && not a.poll_noted) t.poll a.ready Poll refl in
    let three : filter p responses ≡ responses = after_stays (but TotalAlert) held t.response a.last_poll Response refl in
    let goes : filter p totals ≡ [] = from_goes (but TotalAlert) (not a.total_noted) t.total a.first_poll Total refl in
    rw one (sym (kept_more p (polls ++ responses) totals ∙ ap (λ r. r ++ filter p totals) (kept_more p polls responses) ∙ rw (goes, two, three) refl))

not_wait : (alert : Alert) → but alert Wait ≡ true
not_wait PollAlert = refl
not_wait TotalAlert = refl

status_noted : (e : ℕ) (alert : Alert) (reason : List ℕ) (a : Attempt) → task_is_open (noted e alert reason a).status ≡ task_is_open a.status
status_noted e PollAlert reason a = refl
status_noted e TotalAlert reason a = refl

both_noted : (e : ℕ) (alert : Alert) (reason : List ℕ) (a : Attempt)
    → deadlines_of (noted e alert reason a).timing (clocked (noted e alert reason a)) ≡ due_by_timing a.timing (clocked (noted e alert reason a)) ++ due_by_wait a.wait
both_noted e PollAlert reason a = refl
both_noted e TotalAlert reason a = refl

noted_deadlines : (e : ℕ) (alert : Alert) (reason : List ℕ) (a : Attempt) → deadlines (noted e alert reason a) ≡ filter (λ d. but alert d.1) (deadlines a)
noted_deadlines e alert reason a = rw (status_noted e alert reason a, both_noted e alert reason a) (by_open (task_is_open a.status)) where
  by_open : (b : Bool) → (if b then due_by_timing a.timing (clocked (noted e alert reason a)) ++ due_by_wait a.wait else [])
      ≡ filter (λ d. but alert d.1) (if b then due_by_timing a.timing (clocked a) ++ due_by_wait a.wait else [])
  by_open false = refl
  by_open true =
      let one = timing_noted e alert reason a.timing a in
      let two = wait_stays (but alert) a.wait (not_wait alert) in
      rw one (ap (λ r. filter (λ (d : ℕ × Cause). but alert d.1) (due_by_timing a.timing (clocked a)) ++ r) (sym two)
      ∙ sym (kept_more (λ (d : ℕ × Cause). but alert d.1) (due_by_timing a.timing (clocked a)) (due_by_wait a.wait)))

due_noted : (e : ℕ) (alert : Alert) (reason : List ℕ) (a : Attempt) → due e (noted e alert reason a) ≡ filter (but alert) (due e a)
due_noted e alert reason a =
    let one = noted_deadlines e alert reason a in
    let two = kept_twice (has_passed e) (λ (d : ℕ × Cause). but alert d.1) (deadlines a) in
    let three = kept_sorted (λ (d : ℕ × Cause). but alert d.1) (filter (has_passed e) (deadlines a)) in
    let four = kept_causes (but alert) (sorted (filter (has_passed e) (deadlines a))) in
    rw (one, two, ← three) (sym four)

seen_of_noted : (e : ℕ) (alert : Alert) (reason : List ℕ) (a : Attempt) → seen (noted e alert reason a) ≡ seen_noted reason (seen a)
seen_of_noted e PollAlert reason a = refl
seen_of_noted e TotalAlert reason a = refl

end_noted : (cs : List ChildState) (e : ℕ) (alert : Alert) (reason : List ℕ) (a : Attempt) → child_end cs (noted e alert reason a) ≡ child_end cs a
end_noted cs e PollAlert reason a = refl
end_noted cs e TotalAlert reason a = refl

-- ---- children

no_child : (number : FlowNo) (cs : List ChildState) → AllBelow number.0 cs → find (has_ended number) cs ≡ None
no_child number [] h = refl
no_child number (c ∷ cs) h =
    let other : (c.flow.0 == number.0) ≡ false = let lt = h.0 in grind (arith, nat_tests) in
    rw other (no_child number cs h.1)

end_of_new : (cs : List ChildState) (e : ℕ) (n : NewAttempt) (t : Turn) → AllBelow t.next_flow cs → child_end cs (added e n t) ≡ None
end_of_new cs e n t below = by_open (task_is_open (first_status n.begin)) n.child where
  by_open : (b : Bool) (o : Child) → (if b then option_and_then (ended_child cs) (child_number t.next_flow o) else None) ≡ None
  by_open false o = refl
  by_open true Nothing = refl
  by_open true TooLarge = refl
  by_open true Refused = refl
  by_open true (NewFlow def input) = no_child (record { 0 = t.next_flow }) cs below

-- ---- the whole sight

pub sight_make : (e : ℕ) (cs : List ChildState) (act : Act) (t : Turn) → AllBelow t.next_flow cs → sight e cs (make e act t).flow ≡ shown act (sight e cs t.flow)
unfolding sight
sight_make e cs (Add n) t below =
    let one = map_added seen t.flow.attempts (added e n t) in
    let two = map_added (due e) t.flow.attempts (added e n t) in
    let three = map_added (child_end cs) t.flow.attempts (added e n t) in
    rw (one, two, three, due_of_new e n t n.begin, end_of_new cs e n t below) refl
sight_make e cs (Close p o r out) t below =
    let one = map_at_place seen (closed e o r out) (seen_closed o r out) p t.flow.attempts (λ a. refl) in
    let two = map_at_place (due e) (closed e o r out) nothing p t.flow.attempts (λ a. due_closed e o r out a) in
    let three = map_at_place (child_end cs) (closed e o r out) none_of p t.flow.attempts (λ a. end_closed cs e o r out a) in
    rw (one, two, three) refl
sight_make e cs (Note p alert reason) t below =
    let one = map_at_place seen (noted e alert reason) (seen_noted reason) p t.flow.attempts (λ a. seen_of_noted e alert reason a) in
    let two = map_at_place (due e) (noted e alert reason) (filter (but alert)) p t.flow.attempts (λ a. due_noted e alert reason a) in
    let three = map_at_place (child_end cs) (noted e alert reason) as_it_is p t.flow.attempts (λ a. end_noted cs e alert reason a) in
    rw (one, two, three) refl
sight_make e cs (Forgive p) t below =
    let one = map_at_place seen (forgiven e) seen_forgiven p t.flow.attempts (λ a. refl) in
    let two = map_at_place (due e) (forgiven e) nothing p t.flow.attempts (λ a. refl) in
    let three = map_at_place (child_end cs) (forgiven e) none_of p t.flow.attempts (λ a. refl) in
    rw (one, two, three) refl
sight_make e cs (TurnOn p output turn) t below =
    let one = map_at_place seen (turned e output turn) (seen_turned output turn) p t.flow.attempts (λ a. refl) in
    let two = map_at_place (due e) (turned e output turn) as_it_is p t.flow.attempts (λ a. refl) in
    let three = map_at_place (child_end cs) (turned e output turn) as_it_is p t.flow.attempts (λ a. refl) in
    rw (one, two, three) refl
sight_make e cs (Variables variables) t below = refl
sight_make e cs (NoteFlow reason) t below = refl
sight_make e cs (End status r out) t below =
    let one = map_through seen (canceled e) seen_canceled t.flow.attempts (λ a. seen_of_canceled e a) in
    let two = map_through (due e) (canceled e) nothing t.flow.attempts (λ a. due_canceled e a) in
    let three = map_through (child_end cs) (canceled e) none_of t.flow.attempts (λ a. end_canceled cs e a) in
    rw (one, two, three) refl
