-- What is done about a lost attempt reads of a flow its definition alone.
use Rattle.std.proofs.Common.{◌≡◌, ℕ, ◌+◌, ◌<◌, ◌≤◌, Bool, true, false, ◌||◌, if◌then◌else◌, nat_le, List, [], ◌∷◌, map, length, get_or, drop, codes, Option, None, Some, refl, sym, ap, ◌∙◌, arith}
use Rattle.std.proofs.lemmas.Bool.Decides.{nat_tests}
use Rattle.std.proofs.lemmas.List.{length-map}
use Rattle.std.specs.List.{list_any}
use Rattle.std.specs.Option.{option_map_or}
use Rattle.wf_wire.specs.declared.limits.Limits.{Limits}
use Rattle.wf_machine.specs.declared.definition.FlowDef.{FlowDef}
use Rattle.wf_machine.specs.declared.timed.Timing.{Timing}
use Rattle.wf_machine.specs.Sight.{Seen, seen}
use Rattle.wf_machine.specs.State.{Attempt, Flow}
use Rattle.wf_machine.specs.declared.sight.ChildState.{ChildState}
use Rattle.wf_rules.specs.declared.acting.NewAttempt.{NewAttempt}
use Rattle.wf_rules.specs.Rules.{lost, lost_reason, retry_of, unretried}
use Rattle.wf_rules.specs.declared.acting.Act.TheVariants.{Add}
use Rattle.wf_rules.specs.Scheduling.{adding_one, fails, within}
use Rattle.wf_rules.specs.Sight.{Sight, sight}
use Rattle.wf_retry.specs.Reading.{acts_unretried, reason_given, timing_again}
use Rattle.wf_retry.proofs.FirstLemmas.{dropped, dropped_all}

-- whether one is among them, as a loop from the front finds it
any_head : (t : Bool) (test : Seen → Bool) (xs : List Seen) → t ≡ false → (t || list_any test xs) ≡ list_any test xs
any_head false test xs is = refl
any_head true test xs is = cc

any_first : (t : Bool) (test : Seen → Bool) (xs : List Seen) → t ≡ true → (t || list_any test xs) ≡ true
any_first true test xs is = refl
any_first false test xs is = cc

pub any_next : (test : Seen → Bool) (xs : List Attempt) (i : ℕ) (a : Attempt) → i < length xs → a ≡ get_or xs i a → test (seen a) ≡ false
    → list_any test (map seen (drop i xs)) ≡ list_any test (map seen (drop (i + 1) xs))
any_next test xs i a within is not_it = rw (dropped xs i a within is) (any_head (test (seen a)) test (map seen (drop (i + 1) xs)) not_it)

pub any_here : (test : Seen → Bool) (xs : List Attempt) (i : ℕ) (a : Attempt) → i < length xs → a ≡ get_or xs i a → test (seen a) ≡ true → list_any test (map seen (drop i xs)) ≡ true
any_here test xs i a within is it = rw (dropped xs i a within is) (any_first (test (seen a)) test (map seen (drop (i + 1) xs)) it)

pub any_end : (test : Seen → Bool) (xs : List Attempt) (i : ℕ) → length xs ≤ i → list_any test (map seen (drop i xs)) ≡ false
any_end test xs i beyond = rw (dropped_all xs i beyond) refl

same_reason : (s : Sight) (a : Seen) (reason : List ℕ) → lost_reason s a reason ≡ reason_given s.def a reason
same_reason s a [] = refl
same_reason s a (x ∷ xs) = refl

-- a reason that the attempt has
pub reason_told : (def : FlowDef) (a : Seen) (x : ℕ) (xs : List ℕ) → reason_given def a (x ∷ xs) ≡ x ∷ xs
reason_told def a x xs = refl

same_unretried : (s : Sight) (p : ℕ) (a : Seen) → unretried s p a ≡ acts_unretried s.def p a
same_unretried s p a = simp (same_reason s a a.reason)

lost_by : (limits : Limits) (s : Sight) (p : ℕ) (a : Seen) (o : Option Timing) → timing_again s.def a ≡ o
    → lost limits s p a ≡ option_map_or (λ timing. adding_one limits s (retry_of p a timing)) o (unretried s p a)
lost_by limits s p a o is = ap (λ timing. option_map_or (λ t. adding_one limits s (retry_of p a t)) timing (unretried s p a)) is

pub lost_again : (limits : Limits) (s : Sight) (p : ℕ) (a : Seen) (def : FlowDef) (timing : Timing) (again : NewAttempt) → s.def ≡ def → timing_again def a ≡ Some timing → again ≡ retry_of p a timing
    → adding_one limits s again ≡ lost limits s p a
lost_again limits s p a def timing again same is made =
    ap (adding_one limits s) made ∙ sym (lost_by limits s p a (Some timing) (ap (λ (d : FlowDef). timing_again d a) same ∙ is))

pub lost_for_good : (limits : Limits) (s : Sight) (p : ℕ) (a : Seen) (def : FlowDef) → s.def ≡ def → timing_again def a ≡ None → acts_unretried def p a ≡ lost limits s p a
lost_for_good limits s p a def same is =
    ap (λ (d : FlowDef). acts_unretried d p a) (sym same)
    ∙ sym (lost_by limits s p a None (ap (λ (d : FlowDef). timing_again d a) same ∙ is) ∙ same_unretried s p a)

pub sight_def : (e : ℕ) (cs : List ChildState) (f : Flow) → (sight e cs f).def ≡ f.def
unfolding sight
sight_def e cs f = refl

-- ---- room for one more attempt

room_by : (limits : Limits) (s : Sight) (n : NewAttempt) (t : Bool) → nat_le limits.attempts (length s.attempts) ≡ t
    → adding_one limits s n ≡ (if t then fails (codes "attempt limit") None else within limits (n.input ∷ n.output ∷ []) (Add n ∷ []))
room_by limits s n t is = rw is refl

pub no_room : (limits : Limits) (s : Sight) (n : NewAttempt) (xs : List Attempt) → s.attempts ≡ map seen xs → limits.attempts ≤ length xs → adding_one limits s n ≡ fails (codes "attempt limit") None
no_room limits s n xs same full =
    let count : length s.attempts ≡ length xs = ap length same ∙ length-map xs seen in
    room_by limits s n true (grind (arith, nat_tests))

pub with_room : (limits : Limits) (s : Sight) (n : NewAttempt) (xs : List Attempt) → s.attempts ≡ map seen xs → length xs < limits.attempts
    → adding_one limits s n ≡ within limits (n.input ∷ n.output ∷ []) (Add n ∷ [])
with_room limits s n xs same room =
    let count : length s.attempts ≡ length xs = ap length same ∙ length-map xs seen in
    room_by limits s n false (grind (arith, nat_tests))
