-- The least entry of a rising list is its first, and its passed entries stand at its front.
use Rattle.std.proofs.Common.{◌≡◌, ℕ, ◌<◌, ◌≤◌, true, false, if◌then◌else◌, leb, List, [], ◌∷◌, Some, refl, ap, arith}
use Rattle.std.proofs.lemmas.Bool.Decides.{nat_tests}
use Rattle.wf_sorted.specs.declared.entry.Entry.{Entry}
use Rattle.wf_sorted.specs.Order.{is_before, NoneBefore, Rising, passed, lesser, least}

none_least : (x y : Entry) (ys : List Entry) → NoneBefore x (y ∷ ys) → is_before (lesser y (least ys)) x ≡ false
none_least x y [] none = none.0
none_least x y (z ∷ zs) none =
    elim (is_before (lesser z (least zs)) y) as (λ b. is_before (if b then lesser z (least zs) else y) x ≡ false) [
      | true ↦ none_least x z zs none.1
      | false ↦ none.0
    ]

least_of : (x : Entry) (xs : List Entry) → NoneBefore x xs → lesser x (least xs) ≡ x
least_of x [] none = refl
least_of x (y ∷ ys) none = rw (none_least x y ys none) refl

none_passed : (moment : ℕ) (x : Entry) (xs : List Entry) → NoneBefore x xs → NoneBefore x (passed moment xs)
none_passed moment x [] none = tt
none_passed moment x (y ∷ ys) none =
    elim (leb y.moment moment) as (λ b. NoneBefore x (if b then y ∷ passed moment ys else passed moment ys)) [
      | true ↦ (none.0, none_passed moment x ys none.1)
      | false ↦ none_passed moment x ys none.1
    ]

-- where the first has passed, it is the least that has
pub first_passed : (moment : ℕ) (x : Entry) (xs : List Entry) → Rising (x ∷ xs) → x.moment ≤ moment
    → least (passed moment (x ∷ xs)) ≡ Some x
first_passed moment x xs rising due =
    let has : leb x.moment moment ≡ true = grind (arith, nat_tests) in
    rw has (ap Some (least_of x (passed moment xs) (none_passed moment x xs rising.0)))

not_passed : (moment : ℕ) (x y : Entry) → is_before y x ≡ false → moment < x.moment → leb y.moment moment ≡ false
not_passed moment x y after later = grind (arith, nat_tests)

pub none_later_passed : (moment : ℕ) (x : Entry) (xs : List Entry) → NoneBefore x xs → moment < x.moment → passed moment xs ≡ []
none_later_passed moment x [] none later = refl
none_later_passed moment x (y ∷ ys) none later =
    rw (not_passed moment x y none.0 later) (none_later_passed moment x ys none.1 later)

-- where the first hasn't passed, none has
pub nothing_passed : (moment : ℕ) (x : Entry) (xs : List Entry) → Rising (x ∷ xs) → moment < x.moment → passed moment (x ∷ xs) ≡ []
nothing_passed moment x xs rising later =
    let has_not : leb x.moment moment ≡ false = grind (arith, nat_tests) in
    rw has_not (none_later_passed moment x xs rising.0 later)
