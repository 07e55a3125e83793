-- Deadlines by number and by moment.
use Rattle.std.proofs.Common.{◌≡◌, ◌∙◌, ℕ, zero, suc, ◌+◌, ◌<◌, ◌≤◌, true, false, cond, ltb, Bool, List, [], ◌∷◌, length, get_or, Option, None, Some, refl, ap, arith}
use Rattle.std.proofs.lemmas.Bool.Decides.{nat_tests}
use Rattle.std.specs.Prelude.{◌==◌, not, if◌then◌else◌, option_map}
use Rattle.std.specs.List.{find, insert, remove}
use Rattle.std.specs.List.Sorted.{IsPartitionedBy, IsPartitionPoint}
use Rattle.wf_sorted.specs.declared.entry.Entry.{Entry}
use Rattle.wf_sorted.specs.Order.{put, without}
use Rattle.wf_sorted.proofs.PutLemmas.{puts_commute, without_put}
use Rattle.wf_timers.specs.Agenda.{deadline_of, put_deadline, with_deadline, without_deadline}
use Rattle.wf_timers.specs.Kept.{EachOnce, RiseFrom, ordered}

is_number : (x n : ℕ) → (x == n) ≡ true → x ≡ n
is_number x n h = grind (arith, nat_tests)

pub is_not : (x n : ℕ) → (x ≡ n → ⊥) → (x == n) ≡ false
is_not x n h = grind (arith, nat_tests)

pub is_same : (x n : ℕ) → x ≡ n → (x == n) ≡ true
is_same x n h = grind (arith, nat_tests)

not_above : (x n : ℕ) → n < x → (x == n) ≡ false
not_above x n above = grind (arith, nat_tests)

not_below : (x n : ℕ) → ltb x n ≡ true → (x == n) ≡ false
not_below x n below = grind (arith, nat_tests)

-- ---- the search by halves

at_least : (low : ℕ) (xs : List Entry) (j : ℕ) (d : Entry) → RiseFrom low xs → j < length xs → low ≤ (get_or xs j d).number
at_least low [] j d rise within = absurd (omega arith)
at_least low (x ∷ xs) zero d rise within = rise.0
at_least low (x ∷ xs) (suc j) d rise within = omega (arith, rise.0, at_least (x.number + 1) xs j d rise.1 (omega arith))

lesser_too : (x y n : ℕ) → x + 1 ≤ y → ltb y n ≡ true → ltb x n ≡ true
lesser_too x y n order less = grind (arith, nat_tests)

pub parted_by : (low n : ℕ) (xs : List Entry) → RiseFrom low xs → IsPartitionedBy (λ (x : Entry). ltb x.number n) xs
parted_by low n [] rise i j d order within less = absurd (omega arith)
parted_by low n (x ∷ xs) rise zero zero d order within less = less
parted_by low n (x ∷ xs) rise zero (suc j) d order within less =
    lesser_too x.number (get_or xs j d).number n (at_least (x.number + 1) xs j d rise.1 (omega arith)) less
parted_by low n (x ∷ xs) rise (suc i) zero d order within less = absurd (omega arith)
parted_by low n (x ∷ xs) rise (suc i) (suc j) d order within less = parted_by (x.number + 1) n xs rise.1 i j d (omega arith) (omega arith) less

-- the numbers below i are less, and those from i on aren't
pub record IsPlace (n : ℕ) (xs : List Entry) (i : ℕ) : Type 0 where
  pub bound : i ≤ length xs
  pub below : (j : ℕ) (d : Entry) → j < i → ltb (get_or xs j d).number n ≡ true
  pub above : (j : ℕ) (d : Entry) → i ≤ j → j < length xs → ltb (get_or xs j d).number n ≡ false

pub is_place : (n : ℕ) (xs : List Entry) (i : ℕ) → i ≤ length xs
    → IsPartitionPoint (λ (x : Entry). ltb x.number n ≡ true) (λ (x : Entry). ltb x.number n ≡ false) xs i → IsPlace n xs i
is_place n xs i bound parted =
    record { bound = bound; below = λ j d h. parted.0 j d (omega arith) h; above = λ j d h k. parted.1 j d h k }

next_place : (n : ℕ) (x : Entry) (xs : List Entry) (i : ℕ) → IsPlace n (x ∷ xs) (suc i) → IsPlace n xs i
next_place n x xs i at =
    record {
      bound = omega (arith, at.bound);
      below = λ j d h. at.below (suc j) d (omega arith);
      above = λ j d h k. at.above (suc j) d (omega arith) (omega arith);
    }

-- ---- a deadline that is taken away

absent : (low n : ℕ) (xs : List Entry) → RiseFrom low xs → n < low → without_deadline n xs ≡ xs
absent low n [] rise above = refl
absent low n (x ∷ xs) rise above =
    rw (not_above x.number n (omega (arith, rise.0))) (ap (λ ys. x ∷ ys) (absent (x.number + 1) n xs rise.1 (omega (arith, rise.0))))

pub found_at : (low n : ℕ) (d : Entry) (xs : List Entry) (i : ℕ) → RiseFrom low xs → IsPlace n xs i → i < length xs → ((get_or xs i d).number == n) ≡ true
    → without_deadline n xs ≡ remove xs i
found_at low n d [] i rise at within same = absurd (omega arith)
found_at low n d (x ∷ xs) zero rise at within same = rw same (absent (x.number + 1) n xs rise.1 (omega (arith, is_number x.number n same)))
found_at low n d (x ∷ xs) (suc i) rise at within same =
    rw (not_below x.number n (at.below 0 x (omega arith)))
    (ap (λ ys. x ∷ ys) (found_at (x.number + 1) n d xs i rise.1 (next_place n x xs i at) (omega arith) same))

above_all : (x n : ℕ) → ltb x n ≡ false → (x == n) ≡ false → n < x
above_all x n h g = grind (arith, nat_tests)

pub missing_at : (low n : ℕ) (d : Entry) (xs : List Entry) (i : ℕ) → RiseFrom low xs → IsPlace n xs i
    → (i < length xs → ((get_or xs i d).number == n) ≡ false) → without_deadline n xs ≡ xs
missing_at low n d [] i rise at other = refl
missing_at low n d (x ∷ xs) zero rise at other =
    let above : n < x.number = above_all x.number n (at.above 0 x (omega arith) (omega arith)) (other (omega arith)) in
    absent x.number n (x ∷ xs) (omega arith, rise.1) above
missing_at low n d (x ∷ xs) (suc i) rise at other =
    rw (not_below x.number n (at.below 0 x (omega arith)))
    (ap (λ ys. x ∷ ys) (missing_at (x.number + 1) n d xs i rise.1 (next_place n x xs i at) (λ within. other (omega arith))))

lower : (low high : ℕ) (xs : List Entry) → low ≤ high → RiseFrom high xs → RiseFrom low xs
lower low high [] below rise = tt
lower low high (x ∷ xs) below rise = (omega (arith, rise.0), rise.1)

pub rise_without : (low n : ℕ) (xs : List Entry) → RiseFrom low xs → RiseFrom low (without_deadline n xs)
rise_without low n [] rise = tt
rise_without low n (x ∷ xs) rise =
    elim (x.number == n) as (λ p. RiseFrom low (cond (not p) (x ∷ without_deadline n xs) (without_deadline n xs))) [
      | true ↦ lower low (x.number + 1) (without_deadline n xs) (omega (arith, rise.0)) (rise_without (x.number + 1) n xs rise.1)
      | false ↦ (rise.0, rise_without (x.number + 1) n xs rise.1)
    ]

moved_front : (d : Entry) (xs : List Entry) (i : ℕ) → i < length xs → ordered xs ≡ put (get_or xs i d) (ordered (remove xs i))
moved_front d [] i within = absurd (omega arith)
moved_front d (x ∷ xs) zero within = refl
moved_front d (x ∷ xs) (suc i) within =
    ap (put x) (moved_front d xs i (omega arith)) ∙ puts_commute x (get_or xs i d) (ordered (remove xs i))

-- the entry that was removed is taken out by moment
pub removed_by_moment : (d : Entry) (xs : List Entry) (i : ℕ) → i < length xs → without (get_or xs i d) (ordered xs) ≡ ordered (remove xs i)
removed_by_moment d xs i within =
    ap (without (get_or xs i d)) (moved_front d xs i within) ∙ without_put (get_or xs i d) (ordered (remove xs i))

-- ---- a deadline that is put in

pub put_at : (e : Entry) (xs : List Entry) (i : ℕ) → IsPlace e.number xs i → insert xs i e ≡ put_deadline e xs
put_at e [] zero at = refl
put_at e [] (suc i) at = absurd (omega (arith, at.bound))
put_at e (x ∷ xs) zero at = rw (at.above 0 x (omega arith) (omega arith)) refl
put_at e (x ∷ xs) (suc i) at =
    rw (at.below 0 x (omega arith)) (ap (λ ys. x ∷ ys) (put_at e xs i (next_place e.number x xs i at)))

pub put_by_moment : (e : Entry) (xs : List Entry) → ordered (put_deadline e xs) ≡ put e (ordered xs)
put_by_moment e [] = refl
put_by_moment e (x ∷ xs) =
    elim (ltb x.number e.number) as (λ p. ordered (if p then x ∷ put_deadline e xs else e ∷ x ∷ xs) ≡ put e (put x (ordered xs))) [
      | true ↦ ap (put x) (put_by_moment e xs) ∙ puts_commute x e (ordered xs)
      | false ↦ refl
    ]

first_other : (n : ℕ) (x : Entry) (xs : List Entry) → deadline_of n (x ∷ xs) ≡ None → ((x.number == n) ≡ false) × (deadline_of n xs ≡ None)
first_other n x xs none =
    elim (x.number == n) as (λ p. option_map (λ (d : Entry). d.moment) (cond p (Some x) (find (λ (d : Entry). d.number == n) xs)) ≡ None → (p ≡ false) × (deadline_of n xs ≡ None)) [
      | true ↦ λ h. absurd cc
      | false ↦ λ h. (refl, h)
    ] none

is_less : (x n : ℕ) → ltb x n ≡ true → x + 1 ≤ n
is_less x n h = grind (arith, nat_tests)

pub rise_put : (low : ℕ) (e : Entry) (xs : List Entry) → RiseFrom low xs → low ≤ e.number → deadline_of e.number xs ≡ None → RiseFrom low (put_deadline e xs)
rise_put low e [] rise within none = (within, tt)
rise_put low e (x ∷ xs) rise within none =
    let other = first_other e.number x xs none in
    elim (ltb x.number e.number) as (λ p. ltb x.number e.number ≡ p → RiseFrom low (if p then x ∷ put_deadline e xs else e ∷ x ∷ xs)) [
      | true ↦ λ h. (rise.0, rise_put (x.number + 1) e xs rise.1 (is_less x.number e.number h) other.1)
      | false ↦ λ h. (within, (let above = above_all x.number e.number h other.0 in omega arith, rise.1))
    ] refl

-- ---- which deadlines there are afterwards

none_both : (p : Bool) → deadline_of 0 [] ≡ (if p then None else deadline_of 0 [])
none_both true = refl
none_both false = refl

pub of_without : (n x : ℕ) (ds : List Entry) → deadline_of n (without_deadline x ds) ≡ (if x == n then None else deadline_of n ds)
of_without n x [] = none_both (x == n)
of_without n x (d ∷ ds) =
    elim (d.number == x) as (λ p. (d.number == x) ≡ p → deadline_of n (cond (not p) (d ∷ without_deadline x ds) (without_deadline x ds)) ≡ (if x == n then None else deadline_of n (d ∷ ds))) [
      | true ↦ λ h. of_without n x ds ∙ gone (x == n) refl h
      | false ↦ λ h. here (d.number == n) refl h (of_without n x ds)
    ] refl
  where
    gone : (p : Bool) → (x == n) ≡ p → (d.number == x) ≡ true → (if p then None else deadline_of n ds) ≡ (if p then None else deadline_of n (d ∷ ds))
    gone true is h = refl
    gone false is h = let other : (d.number == n) ≡ false = rw (is_number d.number x h) is in rw other refl

    here : (p : Bool) → (d.number == n) ≡ p → (d.number == x) ≡ false → deadline_of n (without_deadline x ds) ≡ (if x == n then None else deadline_of n ds)
        → deadline_of n (d ∷ without_deadline x ds) ≡ (if x == n then None else deadline_of n (d ∷ ds))
    here true is h rest = let other : (x == n) ≡ false = grind (arith, nat_tests) in rw (is, other) refl
    here false is h rest = rw is rest

pub of_put : (n : ℕ) (e : Entry) (ds : List Entry) → deadline_of n (put_deadline e ds) ≡ (if e.number == n then Some e.moment else deadline_of n ds)
of_put n e [] = elim (e.number == n) as (λ p. option_map (λ (d : Entry). d.moment) (cond p (Some e) None) ≡ (if p then Some e.moment else None)) [ true ↦ refl | false ↦ refl ]
of_put n e (d ∷ ds) =
    elim (ltb d.number e.number) as (λ p. ltb d.number e.number ≡ p → deadline_of n (if p then d ∷ put_deadline e ds else e ∷ d ∷ ds) ≡ (if e.number == n then Some e.moment else deadline_of n (d ∷ ds))) [
      | true ↦ λ h. behind (d.number == n) refl h (of_put n e ds)
      | false ↦ λ h. front (e.number == n)
    ] refl
  where
    front : (p : Bool) → option_map (λ (d : Entry). d.moment) (cond p (Some e) (find (λ (d : Entry). d.number == n) (d ∷ ds))) ≡ (if p then Some e.moment else deadline_of n (d ∷ ds))
    front true = refl
    front false = refl

    behind : (p : Bool) → (d.number == n) ≡ p → ltb d.number e.number ≡ true → deadline_of n (put_deadline e ds) ≡ (if e.number == n then Some e.moment else deadline_of n ds)
        → deadline_of n (d ∷ put_deadline e ds) ≡ (if e.number == n then Some e.moment else deadline_of n (d ∷ ds))
    behind true is h rest = let other : (e.number == n) ≡ false = grind (arith, nat_tests) in rw (is, other) refl
    behind false is h rest = rw is rest

pub gone_without : (n : ℕ) (ds : List Entry) → deadline_of n (without_deadline n ds) ≡ None
gone_without n ds = let same : (n == n) ≡ true = grind (arith, nat_tests) in of_without n n ds ∙ rw same refl

pub of_with : (n x : ℕ) (deadline : Option ℕ) (ds : List Entry) → deadline_of n (with_deadline x deadline ds) ≡ (if x == n then deadline else deadline_of n ds)
of_with n x None ds = of_without n x ds
of_with n x (Some moment) ds =
    of_put n (record { moment = moment; number = x }) (without_deadline x ds) ∙ rw (of_without n x ds) (twice (x == n))
  where
    twice : (p : Bool) → (if p then Some moment else (if p then None else deadline_of n ds)) ≡ (if p then Some moment else deadline_of n ds)
    twice true = refl
    twice false = refl

-- the same where it stands in front of all
pub of_front : (n x moment : ℕ) (ds : List Entry) → deadline_of n (record { moment = moment; number = x } ∷ without_deadline x ds) ≡ (if x == n then Some moment else deadline_of n ds)
of_front n x moment ds = front (x == n) refl (of_without n x ds)
  where
    front : (p : Bool) → (x == n) ≡ p → deadline_of n (without_deadline x ds) ≡ (if x == n then None else deadline_of n ds)
        → option_map (λ (d : Entry). d.moment) (cond p (Some (record { moment = moment; number = x })) (find (λ (d : Entry). d.number == n) (without_deadline x ds))) ≡ (if p then Some moment else deadline_of n ds)
    front true is rest = refl
    front false is rest = rw is at rest

-- ---- no number twice

pub once_without : (n : ℕ) (ds : List Entry) → EachOnce ds → EachOnce (without_deadline n ds)
once_without n [] once = tt
once_without n (d ∷ ds) once =
    elim (d.number == n) as (λ p. EachOnce (cond (not p) (d ∷ without_deadline n ds) (without_deadline n ds))) [
      | true ↦ once_without n ds once.1
      | false ↦ (of_without d.number n ds ∙ both (n == d.number), once_without n ds once.1)
    ]
  where
    both : (p : Bool) → (if p then None else deadline_of d.number ds) ≡ None
    both true = refl
    both false = once.0

pub once_front : (n moment : ℕ) (ds : List Entry) → EachOnce ds → EachOnce (record { moment = moment; number = n } ∷ without_deadline n ds)
once_front n moment ds once = (gone_without n ds, once_without n ds once)
