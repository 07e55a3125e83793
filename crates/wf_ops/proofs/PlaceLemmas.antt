-- Attempts are superseded one after another, and each is judged by the list as it was.
use Rattle.std.proofs.Common.{◌≡◌, ℕ, zero, suc, ◌+◌, ◌≤◌, arith, Bool, true, false, if◌then◌else◌, List, [], ◌∷◌, drop, length, slice_get, None, Some, refl, sym, ap, ◌∙◌, subst}
use Rattle.wf_machine.specs.State.{Attempt, Flow}
use Rattle.wf_machine.specs.Operators.{superseded, superseded_where}
use Rattle.wf_flow.specs.Changes.{at_place}
use Rattle.wf_ops.specs.Places.{passes_at}

-- ---- one place

pub passes_there : (test : Attempt → List Attempt → Bool) (xs : List Attempt) (place : ℕ) (a : Attempt) → slice_get xs place ≡ Some a → test a (drop (place + 1) xs) ≡ passes_at test xs place
passes_there test xs place a there =
    let next : suc place ≡ place + 1 = omega arith in
    subst (λ n. test a (drop n xs) ≡ passes_at test xs place) next (by_place xs place there) where
      by_place : (xs : List Attempt) (place : ℕ) → slice_get xs place ≡ Some a → test a (drop (suc place) xs) ≡ passes_at test xs place
      by_place [] place there = cc
      by_place (x ∷ xs) zero there = let same : x ≡ a = cc in ap (λ y. test y xs) (sym same)
      by_place (x ∷ xs) (suc place) there = by_place xs place there

pub passes_nowhere : (test : Attempt → List Attempt → Bool) (xs : List Attempt) (place : ℕ) → slice_get xs place ≡ None → false ≡ passes_at test xs place
passes_nowhere test [] place there = refl
passes_nowhere test (x ∷ xs) zero there = cc
passes_nowhere test (x ∷ xs) (suc place) there = passes_nowhere test xs place there

-- ---- one place after another

-- the first so many are judged
abbrev pub superseded_before : (Attempt → List Attempt → Bool) → ℕ → List Attempt → List Attempt
superseded_before test zero xs = xs
superseded_before test (suc place) [] = []
superseded_before test (suc place) (x ∷ xs) = (if test x xs then superseded x else x) ∷ superseded_before test place xs

-- all are judged
pub judged_all : (test : Attempt → List Attempt → Bool) (place : ℕ) (xs : List Attempt) → length xs ≤ place → superseded_before test place xs ≡ superseded_where test xs
judged_all test zero [] beyond = refl
judged_all test (suc place) [] beyond = refl
judged_all test zero (x ∷ xs) beyond = absurd (omega (arith, beyond))
judged_all test (suc place) (x ∷ xs) beyond = ap (λ rest. (if test x xs then superseded x else x) ∷ rest) (judged_all test place xs (omega (arith, beyond)))

one_judged : (test : Attempt → List Attempt → Bool) (place : ℕ) (xs : List Attempt) (passes : Bool) → passes_at test (superseded_before test place xs) place ≡ passes
    → (if passes then at_place place superseded (superseded_before test place xs) else superseded_before test place xs) ≡ superseded_before test (suc place) xs
one_judged test zero [] true is = refl
one_judged test zero [] false is = refl
one_judged test zero (x ∷ xs) true is = rw is refl
one_judged test zero (x ∷ xs) false is = rw is refl
one_judged test (suc place) [] true is = refl
one_judged test (suc place) [] false is = refl
one_judged test (suc place) (x ∷ xs) true is = ap (λ rest. (if test x xs then superseded x else x) ∷ rest) (one_judged test place xs true is)
one_judged test (suc place) (x ∷ xs) false is = ap (λ rest. (if test x xs then superseded x else x) ∷ rest) (one_judged test place xs false is)

-- one more is judged
pub judged_one : (test : Attempt → List Attempt → Bool) (place : ℕ) (xs : List Attempt) (passes : Bool) → passes_at test (superseded_before test place xs) place ≡ passes
    → (if passes then at_place place superseded (superseded_before test place xs) else superseded_before test place xs) ≡ superseded_before test (place + 1) xs
judged_one test place xs passes is =
    let next : suc place ≡ place + 1 = omega arith in
    subst (λ n. (if passes then at_place place superseded (superseded_before test place xs) else superseded_before test place xs) ≡ superseded_before test n xs) next (one_judged test place xs passes is)

-- ---- a flow

-- the attempt at the place passes, and is superseded
pub judged_on : (test : Attempt → List Attempt → Bool) (place : ℕ) (f now next : Flow) → now ≡ record f { attempts = superseded_before test place f.attempts }
    → passes_at test now.attempts place ≡ true → next ≡ record now { attempts = at_place place superseded now.attempts }
    → next ≡ record f { attempts = superseded_before test (place + 1) f.attempts }
judged_on test place f now next is passes made =
    made
    ∙ (subst (λ z. record z { attempts = at_place place superseded z.attempts } ≡ record f { attempts = superseded_before test (place + 1) f.attempts }) (sym is)
    (ap (λ xs. record f { attempts = xs }) (judged_one test place f.attempts true (subst (λ z. passes_at test z.attempts place ≡ true) is passes))))

-- it doesn't, and stays as it is
pub judged_off : (test : Attempt → List Attempt → Bool) (place : ℕ) (f now : Flow) → now ≡ record f { attempts = superseded_before test place f.attempts }
    → passes_at test now.attempts place ≡ false → now ≡ record f { attempts = superseded_before test (place + 1) f.attempts }
judged_off test place f now is passes =
    is ∙ ap (λ xs. record f { attempts = xs }) (judged_one test place f.attempts false (subst (λ z. passes_at test z.attempts place ≡ false) is passes))

-- all are judged
pub judged_flow : (test : Attempt → List Attempt → Bool) (place : ℕ) (f now : Flow) → now ≡ record f { attempts = superseded_before test place f.attempts } → length f.attempts ≤ place
    → now ≡ record f { attempts = superseded_where test f.attempts }
judged_flow test place f now is beyond = is ∙ ap (λ xs. record f { attempts = xs }) (judged_all test place f.attempts beyond)
