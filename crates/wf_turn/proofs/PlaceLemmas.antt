-- Attempts at their places, and what the rules see of them.
use Rattle.std.proofs.Common.{◌≡◌, ℕ, zero, suc, Bool, true, List, [], ◌∷◌, map, slice_get, Option, None, Some, IfSome, refl, ap, ◌∙◌}
use Rattle.wf_names.specs.declared.statuses.TaskStatus.{TaskStatus}
use Rattle.wf_names.specs.TaskStatus.{task_is_open}
use Rattle.wf_doc.specs.declared.doc.Doc.{Doc}
use Rattle.wf_machine.specs.State.{Attempt, Flow}
use Rattle.wf_machine.specs.Sight.{Seen, seen}
use Rattle.wf_flow.specs.Changes.{has_failed}
use Rattle.wf_flow.specs.Changes as kept
use Rattle.wf_rules.specs.declared.acting.Outcome.{Outcome}
use Rattle.wf_rules.specs.Acts.{at_place, closed, number_at, status_of}
use Rattle.wf_rules.specs.Making.{LostAt, OpenAt}

-- ---- numbers

pub number_there : (p : ℕ) (xs : List Attempt) (a : Attempt) → slice_get xs p ≡ Some a → number_at p xs ≡ Some a.number
number_there p [] a there = cc
number_there zero (x ∷ xs) a there = let same : x ≡ a = cc in ap (λ (y : Attempt). Some y.number) same
number_there (suc p) (x ∷ xs) a there = number_there p xs a there

pub no_number : (p : ℕ) (xs : List Attempt) → slice_get xs p ≡ None → number_at p xs ≡ None
no_number p [] there = refl
no_number zero (x ∷ xs) there = cc
no_number (suc p) (x ∷ xs) there = no_number p xs there

-- ---- statuses

status_there : (test : TaskStatus → Bool) (p : ℕ) (xs : List Attempt) (a : Seen) → slice_get (map seen xs) p ≡ Some a → test a.status ≡ true → IfSome (slice_get xs p) (λ x. test x.status ≡ true)
status_there test p [] a there is = tt
status_there test zero (x ∷ xs) a there is = let same : seen x ≡ a = cc in ap (λ (y : Seen). test y.status) same ∙ is
status_there test (suc p) (x ∷ xs) a there is = status_there test p xs a there is

pub open_there : (p : ℕ) (xs : List Attempt) → OpenAt (map seen xs) p → IfSome (slice_get xs p) (λ a. task_is_open a.status ≡ true)
open_there p xs at = status_there task_is_open p xs at.0 at.1 at.2

pub failed_there : (p : ℕ) (xs : List Attempt) → LostAt (map seen xs) p → IfSome (slice_get xs p) (λ a. has_failed a.status ≡ true)
failed_there p xs at = status_there has_failed p xs at.0 at.1 at.2

-- ---- changes

pub same_at : (p : ℕ) (change other : Attempt → Attempt) (xs : List Attempt) → ((a : Attempt) → change a ≡ other a) → kept.at_place p change xs ≡ at_place p other xs
same_at p change other [] same = refl
same_at zero change other (x ∷ xs) same = ap (λ y. y ∷ xs) (same x)
same_at (suc p) change other (x ∷ xs) same = ap (λ ys. x ∷ ys) (same_at p change other xs same)

same_closed : (e : ℕ) (o : Outcome) (reason : Option (List ℕ)) (output : Option Doc) (a : Attempt) → kept.closed e (status_of o) reason output a ≡ closed e o reason output a
same_closed e o None None a = refl
same_closed e o None (Some output) a = refl
same_closed e o (Some reason) None a = refl
same_closed e o (Some reason) (Some output) a = refl

-- the flow after a change
pub flow_changed : (f g : Flow) (p : ℕ) (change other : Attempt → Attempt) → ((a : Attempt) → change a ≡ other a) → g ≡ record f { attempts = kept.at_place p change f.attempts }
    → g ≡ record f { attempts = at_place p other f.attempts }
flow_changed f g p change other same is = is ∙ ap (λ xs. record f { attempts = xs }) (same_at p change other f.attempts same)

pub flow_closed : (f g : Flow) (p e : ℕ) (status : TaskStatus) (o : Outcome) (reason : Option (List ℕ)) (output : Option Doc) → status ≡ status_of o
    → g ≡ record f { attempts = kept.at_place p (kept.closed e status reason output) f.attempts } → g ≡ record f { attempts = at_place p (closed e o reason output) f.attempts }
flow_closed f g p e status o reason output ends is =
    flow_changed f g p (kept.closed e (status_of o) reason output) (closed e o reason output) (same_closed e o reason output)
    (is ∙ ap (λ s. record f { attempts = kept.at_place p (kept.closed e s reason output) f.attempts }) ends)
