-- The earliest of two lists is the earlier of their earliest.
use Rattle.std.proofs.Common.{◌≡◌, ◌∙◌, ℕ, ltb, true, false, if◌then◌else◌, List, [], ◌∷◌, ◌++◌, Option, None, Some, refl, sym, ap, arith}
use Rattle.std.proofs.lemmas.Bool.Decides.{nat_tests}
use Rattle.wf_machine.specs.declared.timed.Cause.{Cause}
use Rattle.wf_time.specs.Deadlines.{earliest, first_of}

pub first_none : (a : Option (ℕ × Cause)) → first_of a None ≡ a
first_none None = refl
first_none (Some x) = refl

three : (x y z : ℕ × Cause) → first_of (Some x) (first_of (Some y) (Some z)) ≡ first_of (first_of (Some x) (Some y)) (Some z)
three x y z =
    elim (ltb z.0 y.0) as (λ p. ltb z.0 y.0 ≡ p → first_of (Some x) (if p then Some z else Some y) ≡ first_of (if ltb y.0 x.0 then Some y else Some x) (Some z)) [
      | true ↦ λ p. elim (ltb y.0 x.0) as (λ q. ltb y.0 x.0 ≡ q → first_of (Some x) (Some z) ≡ first_of (if q then Some y else Some x) (Some z)) [
        | true ↦ λ q. let r : ltb z.0 x.0 ≡ true = grind (arith, nat_tests) in rw (p, r) refl
        | false ↦ λ q. refl
      ] refl
      | false ↦ λ p. elim (ltb y.0 x.0) as (λ q. ltb y.0 x.0 ≡ q → (if q then Some y else Some x) ≡ first_of (if q then Some y else Some x) (Some z)) [
        | true ↦ λ q. rw p refl
        | false ↦ λ q. let r : ltb z.0 x.0 ≡ false = grind (arith, nat_tests) in rw r refl
      ] refl
    ] refl

first_assoc : (a b c : Option (ℕ × Cause)) → first_of a (first_of b c) ≡ first_of (first_of a b) c
first_assoc None b c = refl
first_assoc (Some x) None c = refl
first_assoc (Some x) (Some y) None = sym (first_none (first_of (Some x) (Some y)))
first_assoc (Some x) (Some y) (Some z) = three x y z

pub earliest_both : (xs ys : List (ℕ × Cause)) → earliest (xs ++ ys) ≡ first_of (earliest xs) (earliest ys)
earliest_both [] ys = refl
earliest_both (x ∷ xs) ys = ap (first_of (Some x)) (earliest_both xs ys) ∙ first_assoc (Some x) (earliest xs) (earliest ys)
