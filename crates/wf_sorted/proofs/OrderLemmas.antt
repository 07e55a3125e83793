-- Where an entry stands among sorted entries.
use Rattle.std.proofs.Common.{◌≡◌, ℕ, zero, suc, ◌<◌, ◌≤◌, true, false, if◌then◌else◌, List, [], ◌∷◌, length, get_or, refl, ap, arith}
use Rattle.std.specs.List.{insert, remove}
use Rattle.std.proofs.lemmas.Bool.Decides.{nat_tests}
use Rattle.std.specs.List.Sorted.{IsPartitionedBy, IsPartitionPoint}
use Rattle.wf_sorted.specs.declared.entry.Entry.{Entry}
use Rattle.wf_sorted.specs.Order.{is_before, is_same, NoneBefore, Rising, holds, put, without}

-- ---- the order of three entries

pub before_all : (x y e : Entry) → is_before y x ≡ false → is_before y e ≡ true → is_before x e ≡ true
before_all x y e a b = grind (arith, nat_tests)

pub none_trans : (x y e : Entry) → is_before y x ≡ false → is_before x e ≡ false → is_before y e ≡ false
none_trans x y e a b = grind (arith, nat_tests)

pub before_not_same : (x e : Entry) → is_before x e ≡ true → is_same x e ≡ false
before_not_same x e a = grind (arith, nat_tests)

pub before_back : (x e : Entry) → is_before x e ≡ true → is_before e x ≡ false
before_back x e a = grind (arith, nat_tests)

pub next_after : (x e : Entry) → is_before x e ≡ false → is_same x e ≡ false → is_before e x ≡ true
next_after x e a b = grind (arith, nat_tests)

later_not_same : (x y e : Entry) → is_before e x ≡ true → is_before y x ≡ false → is_same y e ≡ false
later_not_same x y e a b = grind (arith, nat_tests)

-- ---- the search

pub none_at : (x : Entry) (xs : List Entry) (j : ℕ) (d : Entry) → NoneBefore x xs → j < length xs → is_before (get_or xs j d) x ≡ false
none_at x [] j d none within = absurd (omega arith)
none_at x (y ∷ ys) zero d none within = none.0
none_at x (y ∷ ys) (suc j) d none within = none_at x ys j d none.1 (omega arith)

pub parted_by : (e : Entry) (xs : List Entry) → Rising xs → IsPartitionedBy (λ x. is_before x e) xs
parted_by e [] rising i j d order within before = absurd (omega arith)
parted_by e (x ∷ xs) rising zero zero d order within before = before
parted_by e (x ∷ xs) rising zero (suc j) d order within before =
    before_all x (get_or xs j d) e (none_at x xs j d rising.0 (omega arith)) before
parted_by e (x ∷ xs) rising (suc i) zero d order within before = absurd (omega arith)
parted_by e (x ∷ xs) rising (suc i) (suc j) d order within before =
    parted_by e xs rising.1 i j d (omega arith) (omega arith) before

-- the entries below i come before e, and those from i on don't
pub record IsPlace (e : Entry) (xs : List Entry) (i : ℕ) : Type 0 where
  pub bound : i ≤ length xs
  pub below : (j : ℕ) (d : Entry) → j < i → is_before (get_or xs j d) e ≡ true
  pub above : (j : ℕ) (d : Entry) → i ≤ j → j < length xs → is_before (get_or xs j d) e ≡ false

pub is_place : (e : Entry) (xs : List Entry) (i : ℕ) → i ≤ length xs
    → IsPartitionPoint (λ x. is_before x e ≡ true) (λ x. is_before x e ≡ false) xs i → IsPlace e xs i
is_place e xs i bound parted =
    record { bound = bound; below = λ j d h. parted.0 j d (omega arith) h; above = λ j d h k. parted.1 j d h k }

next_place : (e x : Entry) (xs : List Entry) (i : ℕ) → IsPlace e (x ∷ xs) (suc i) → IsPlace e xs i
next_place e x xs i at =
    record {
      bound = omega (arith, at.bound);
      below = λ j d h. at.below (suc j) d (omega arith);
      above = λ j d h k. at.above (suc j) d (omega arith) (omega arith);
    }

-- ---- an entry that is put in

pub put_at : (e : Entry) (xs : List Entry) (i : ℕ) → IsPlace e xs i → put e xs ≡ insert xs i e
put_at e [] zero at = refl
put_at e [] (suc i) at = absurd (omega (arith, at.bound))
put_at e (x ∷ xs) zero at = rw (at.above 0 x (omega arith) (omega arith)) refl
put_at e (x ∷ xs) (suc i) at =
    rw (at.below 0 x (omega arith)) (ap (λ ys. x ∷ ys) (put_at e xs i (next_place e x xs i at)))

none_put : (x e : Entry) (xs : List Entry) → NoneBefore x xs → is_before e x ≡ false → NoneBefore x (put e xs)
none_put x e [] none after = (after, tt)
none_put x e (y ∷ ys) none after =
    elim (is_before y e) as (λ b. NoneBefore x (if b then y ∷ put e ys else e ∷ y ∷ ys)) [
      | true ↦ (none.0, none_put x e ys none.1 after)
      | false ↦ (after, none)
    ]

none_more : (x e : Entry) (xs : List Entry) → NoneBefore x xs → is_before x e ≡ false → NoneBefore e xs
none_more x e [] none after = tt
none_more x e (y ∷ ys) none after = (none_trans x y e none.0 after, none_more x e ys none.1 after)

pub rising_put : (e : Entry) (xs : List Entry) → Rising xs → Rising (put e xs)
rising_put e [] rising = (tt, tt)
rising_put e (x ∷ xs) rising =
    elim (is_before x e) as (λ b. is_before x e ≡ b → Rising (if b then x ∷ put e xs else e ∷ x ∷ xs)) [
      | true ↦ λ before. (none_put x e xs rising.0 (before_back x e before), rising_put e xs rising.1)
      | false ↦ λ after. ((after, none_more x e xs rising.0 after), rising)
    ] refl

-- ---- an entry that is taken out

pub found_at : (e d : Entry) (xs : List Entry) (i : ℕ) → IsPlace e xs i → i < length xs → is_same (get_or xs i d) e ≡ true
    → record { there : holds e xs ≡ true; left : without e xs ≡ remove xs i }
found_at e d [] i at within same = absurd (omega arith)
found_at e d (x ∷ xs) zero at within same = record { there = rw same refl; left = rw same refl }
found_at e d (x ∷ xs) (suc i) at within same =
    let rest = found_at e d xs i (next_place e x xs i at) (omega arith) same in
    let other : is_same x e ≡ false = before_not_same x e (at.below 0 x (omega arith)) in
    record { there = rw other rest.there; left = rw other (ap (λ ys. x ∷ ys) rest.left) }

pub none_later : (e x : Entry) (xs : List Entry) → is_before e x ≡ true → NoneBefore x xs → holds e xs ≡ false
none_later e x [] before none = refl
none_later e x (y ∷ ys) before none = rw (later_not_same x y e before none.0) (none_later e x ys before none.1)

pub missing_at : (e d : Entry) (xs : List Entry) (i : ℕ) → Rising xs → IsPlace e xs i
    → (i < length xs → is_same (get_or xs i d) e ≡ false) → holds e xs ≡ false
missing_at e d [] i rising at other = refl
missing_at e d (x ∷ xs) zero rising at other =
    let differs : is_same x e ≡ false = other (omega arith) in
    rw differs (none_later e x xs (next_after x e (at.above 0 x (omega arith) (omega arith)) differs) rising.0)
missing_at e d (x ∷ xs) (suc i) rising at other =
    rw (before_not_same x e (at.below 0 x (omega arith)))
    (missing_at e d xs i rising.1 (next_place e x xs i at) (λ within. other (omega arith)))

pub without_missing : (e : Entry) (xs : List Entry) → holds e xs ≡ false → without e xs ≡ xs
without_missing e [] missing = refl
without_missing e (x ∷ xs) missing = grind (arith, nat_tests, without_missing e xs)

none_without : (x e : Entry) (xs : List Entry) → NoneBefore x xs → NoneBefore x (without e xs)
none_without x e [] none = tt
none_without x e (y ∷ ys) none =
    elim (is_same y e) as (λ b. NoneBefore x (if b then ys else y ∷ without e ys)) [
      | true ↦ none.1
      | false ↦ (none.0, none_without x e ys none.1)
    ]

pub rising_without : (e : Entry) (xs : List Entry) → Rising xs → Rising (without e xs)
rising_without e [] rising = tt
rising_without e (x ∷ xs) rising =
    elim (is_same x e) as (λ b. Rising (if b then xs else x ∷ without e xs)) [
      | true ↦ rising.1
      | false ↦ (none_without x e xs rising.0, rising_without e xs rising.1)
    ]
