-- Marks as a sorted list keeps them, and as a list of numbers.
use Rattle.std.proofs.Common.{◌≡◌, ◌∙◌, ℕ, ◌+◌, ◌<◌, ◌≤◌, true, false, cond, ltb, Bool, List, [], ◌∷◌, Some, slice_get, option_map, refl, sym, ap, arith}
use Rattle.std.proofs.lemmas.Bool.Decides.{nat_tests}
use Rattle.std.specs.Prelude.{◌==◌, ◌||◌, ◌&&◌, not, if◌then◌else◌}
use Rattle.wf_sorted.specs.declared.entry.Entry.{Entry}
use Rattle.wf_sorted.specs.Order.{is_before, is_same, put, without}
use Rattle.wf_timers.specs.Agenda.{is_marked, put_number, with_mark, without_mark}
use Rattle.wf_timers.specs.Kept.{AreMarks, least_number, lesser, mark_of, numbers_of}

before_mark : (x : Entry) (n : ℕ) → x.moment ≡ 0 → is_before x (mark_of n) ≡ ltb x.number n
before_mark x n at = rw at refl

same_mark : (x : Entry) (n : ℕ) → x.moment ≡ 0 → is_same x (mark_of n) ≡ (x.number == n)
same_mark x n at = rw at refl

-- the number isn't in the list
abbrev IsAbsent : ℕ → List Entry → Type 0
IsAbsent n [] = Unit {0}
IsAbsent n (x ∷ xs) = ((x.number == n) ≡ false) × IsAbsent n xs

not_above : (x n : ℕ) → n < x → (x == n) ≡ false
not_above x n above = grind (arith, nat_tests)

absent_above : (low n : ℕ) (xs : List Entry) → AreMarks low xs → n < low → IsAbsent n xs
absent_above low n [] rise above = tt
absent_above low n (x ∷ xs) rise above =
    (not_above x.number n (omega (arith, rise.1)), absent_above (x.number + 1) n xs rise.2 (omega (arith, rise.1)))

absent_kept : (n : ℕ) (xs : List Entry) → IsAbsent n xs → without_mark n (numbers_of xs) ≡ numbers_of xs
absent_kept n [] absent = refl
absent_kept n (x ∷ xs) absent = rw absent.0 (ap (λ ns. x.number ∷ ns) (absent_kept n xs absent.1))

is_number : (x n : ℕ) → (x == n) ≡ true → x ≡ n
is_number x n h = grind (arith, nat_tests)

pub unmarked : (low n : ℕ) (xs : List Entry) → AreMarks low xs → numbers_of (without (mark_of n) xs) ≡ without_mark n (numbers_of xs)
unmarked low n [] rise = refl
unmarked low n (x ∷ xs) rise =
    rw (same_mark x n rise.0)
    (elim (x.number == n) as (λ p. (x.number == n) ≡ p → numbers_of (if p then xs else x ∷ without (mark_of n) xs) ≡ cond (not p) (x.number ∷ without_mark n (numbers_of xs)) (without_mark n (numbers_of xs))) [
      | true ↦ λ h. sym (absent_kept n xs (absent_above (x.number + 1) n xs rise.2 (omega (arith, is_number x.number n h))))
      | false ↦ λ h. ap (λ ns. x.number ∷ ns) (unmarked (x.number + 1) n xs rise.2)
    ] refl)

lower : (low high : ℕ) (xs : List Entry) → low ≤ high → AreMarks high xs → AreMarks low xs
lower low high [] below rise = tt
lower low high (x ∷ xs) below rise = (rise.0, omega (arith, rise.1), rise.2)

pub rise_without : (low n : ℕ) (xs : List Entry) → AreMarks low xs → AreMarks low (without (mark_of n) xs)
rise_without low n [] rise = tt
rise_without low n (x ∷ xs) rise =
    elim (is_same x (mark_of n)) as (λ p. AreMarks low (if p then xs else x ∷ without (mark_of n) xs)) [
      | true ↦ lower low (x.number + 1) xs (omega (arith, rise.1)) rise.2
      | false ↦ (rise.0, rise.1, rise_without (x.number + 1) n xs rise.2)
    ]

absent_without : (low n : ℕ) (xs : List Entry) → AreMarks low xs → IsAbsent n (without (mark_of n) xs)
absent_without low n [] rise = tt
absent_without low n (x ∷ xs) rise =
    rw (same_mark x n rise.0)
    (elim (x.number == n) as (λ p. (x.number == n) ≡ p → IsAbsent n (if p then xs else x ∷ without (mark_of n) xs)) [
      | true ↦ λ h. absent_above (x.number + 1) n xs rise.2 (omega (arith, is_number x.number n h))
      | false ↦ λ h. (h, absent_without (x.number + 1) n xs rise.2)
    ] refl)

put_numbers : (low n : ℕ) (xs : List Entry) → AreMarks low xs → numbers_of (put (mark_of n) xs) ≡ put_number n (numbers_of xs)
put_numbers low n [] rise = refl
put_numbers low n (x ∷ xs) rise =
    rw (before_mark x n rise.0)
    (elim (ltb x.number n) as (λ p. numbers_of (if p then x ∷ put (mark_of n) xs else mark_of n ∷ x ∷ xs) ≡ (if p then x.number ∷ put_number n (numbers_of xs) else n ∷ x.number ∷ numbers_of xs)) [
      | true ↦ ap (λ ns. x.number ∷ ns) (put_numbers (x.number + 1) n xs rise.2)
      | false ↦ refl
    ])

next_above : (x n : ℕ) → ltb x n ≡ false → (x == n) ≡ false → n + 1 ≤ x
next_above x n h g = grind (arith, nat_tests)

is_less : (x n : ℕ) → ltb x n ≡ true → x + 1 ≤ n
is_less x n h = grind (arith, nat_tests)

rise_put : (low n : ℕ) (xs : List Entry) → AreMarks low xs → low ≤ n → IsAbsent n xs → AreMarks low (put (mark_of n) xs)
rise_put low n [] rise within absent = (refl, within, tt)
rise_put low n (x ∷ xs) rise within absent =
    rw (before_mark x n rise.0)
    (elim (ltb x.number n) as (λ p. ltb x.number n ≡ p → AreMarks low (if p then x ∷ put (mark_of n) xs else mark_of n ∷ x ∷ xs)) [
      | true ↦ λ h. (rise.0, rise.1, rise_put (x.number + 1) n xs rise.2 (is_less x.number n h) absent.1)
      | false ↦ λ h. (refl, within, (rise.0, next_above x.number n h absent.0, rise.2))
    ] refl)

-- a mark is put in where it was taken out
pub marked : (n : ℕ) (xs : List Entry) → AreMarks 0 xs → numbers_of (put (mark_of n) (without (mark_of n) xs)) ≡ with_mark n (numbers_of xs)
marked n xs rise = put_numbers 0 n (without (mark_of n) xs) (rise_without 0 n xs rise) ∙ ap (put_number n) (unmarked 0 n xs rise)

pub rise_marked : (n : ℕ) (xs : List Entry) → AreMarks 0 xs → AreMarks 0 (put (mark_of n) (without (mark_of n) xs))
rise_marked n xs rise = rise_put 0 n (without (mark_of n) xs) (rise_without 0 n xs rise) (omega arith) (absent_without 0 n xs rise)

-- ---- the first is the least

less_than_all : (low n : ℕ) (xs : List Entry) → AreMarks low xs → n ≤ low → lesser n (least_number (numbers_of xs)) ≡ n
less_than_all low n [] rise within = refl
less_than_all low n (x ∷ xs) rise within =
    let first : lesser x.number (least_number (numbers_of xs)) ≡ x.number = less_than_all (x.number + 1) x.number xs rise.2 (omega arith) in
    rw first (let below : n ≤ x.number = omega (arith, rise.1) in omega arith)

pub first_mark : (xs : List Entry) → AreMarks 0 xs → option_map (λ (e : Entry). e.number) (slice_get xs 0) ≡ least_number (numbers_of xs)
first_mark [] rise = refl
first_mark (x ∷ xs) rise = sym (ap Some (less_than_all (x.number + 1) x.number xs rise.2 (omega arith)))

-- ---- which numbers have a mark afterwards

both_tests : (m x n : ℕ) → (m == x) ≡ true → (m == n) ≡ (x == n)
both_tests m x n h = rw (is_number m x h) refl

pub marked_without : (n x : ℕ) (ms : List ℕ) → is_marked n (without_mark x ms) ≡ (not (x == n) && is_marked n ms)
marked_without n x [] = elim (x == n) as (λ p. false ≡ (not p && false)) [ true ↦ refl | false ↦ refl ]
marked_without n x (m ∷ ms) =
    elim (m == x) as (λ p. (m == x) ≡ p → is_marked n (cond (not p) (m ∷ without_mark x ms) (without_mark x ms)) ≡ (not (x == n) && ((m == n) || is_marked n ms))) [
      | true ↦ λ h. marked_without n x ms ∙ rw (both_tests m x n h) (dropped (x == n) (is_marked n ms))
      | false ↦ λ h. ap (λ q. (m == n) || q) (marked_without n x ms) ∙ kept (m == n) (x == n) (is_marked n ms) (λ g i. apart h g i)
    ] refl
  where
    dropped : (p q : Bool) → (not p && q) ≡ (not p && (p || q))
    dropped true q = refl
    dropped false q = refl

    kept : (p q r : Bool) → (p ≡ true → q ≡ true → ⊥) → (p || (not q && r)) ≡ (not q && (p || r))
    kept true true r apart = absurd (apart refl refl)
    kept true false r apart = refl
    kept false q r apart = refl

    apart : (m == x) ≡ false → (m == n) ≡ true → (x == n) ≡ true → ⊥
    apart h g i = grind (arith, nat_tests)

pub marked_put : (n x : ℕ) (ms : List ℕ) → is_marked n (put_number x ms) ≡ ((x == n) || is_marked n ms)
marked_put n x [] = refl
marked_put n x (m ∷ ms) =
    elim (ltb m x) as (λ p. is_marked n (if p then m ∷ put_number x ms else x ∷ m ∷ ms) ≡ ((x == n) || ((m == n) || is_marked n ms))) [
      | true ↦ ap (λ q. (m == n) || q) (marked_put n x ms) ∙ swapped (m == n) (x == n) (is_marked n ms)
      | false ↦ refl
    ]
  where
    swapped : (p q r : Bool) → (p || (q || r)) ≡ (q || (p || r))
    swapped true true r = refl
    swapped true false r = refl
    swapped false q r = refl

pub marked_with : (n x : ℕ) (ms : List ℕ) → is_marked n (with_mark x ms) ≡ ((x == n) || is_marked n ms)
marked_with n x ms =
    marked_put n x (without_mark x ms) ∙ ap (λ q. (x == n) || q) (marked_without n x ms) ∙ again (x == n) (is_marked n ms)
  where
    again : (p q : Bool) → (p || (not p && q)) ≡ (p || q)
    again true q = refl
    again false q = refl
