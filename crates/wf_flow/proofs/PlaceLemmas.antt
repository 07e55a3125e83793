-- Where the attempt of a number stands among attempts whose numbers rise.
use Rattle.std.proofs.Common.{◌≡◌, ◌≢◌, ℕ, zero, suc, ◌+◌, ◌<◌, ◌≤◌, if◌then◌else◌, List, [], ◌∷◌, length, get_or, slice_get, slice_set, option_map, Option, None, Some, Result, Ok, Err, IsSome, IsSomeAnd, IfNone, IfSome, refl, ◌∙◌, sym, ap, inl, inr, subst, arith}
use Rattle.std.specs.List.Sorted.{IsSearchInRange, IsBinarySearchResult, IsNonDecreasingBy, IsPartitionPoint}
use Rattle.std.specs.Result.{result_ok}
use Rattle.std.specs.declared.cmp.Ordering.TheVariants.{Less, Greater}
use Rattle.std.proofs.lemmas.Bool.{cases_lt}
use Rattle.std.specs.Ordering.{nat_cmp, ordering_index}
use Rattle.std.proofs.lemmas.Cmp.{ranked}
use Rattle.std.proofs.lemmas.Bool.Decides.{nat_tests}
use Rattle.wf_names.specs.declared.ids.TaskNo.{TaskNo}
use Rattle.wf_machine.specs.State.{Attempt, RisingFrom, attempt_numbered, is_numbered, with_attempt}
use Rattle.wf_flow.specs.Room.{IsPlaceOf}

-- ---- rising numbers

low_below : (low : ℕ) (xs : List Attempt) (d : Attempt) (j : ℕ) → RisingFrom low xs → j < length xs → low ≤ (get_or xs j d).number.0
low_below low [] d j rising within = absurd (omega arith)
low_below low (x ∷ xs) d zero rising within = rising.0
low_below low (x ∷ xs) d (suc j) rising within = omega (arith, rising.0, low_below (x.number.0 + 1) xs d j rising.1 (omega arith))

rises : (low : ℕ) (xs : List Attempt) (d : Attempt) (i j : ℕ) → RisingFrom low xs → i ≤ j → j < length xs → (get_or xs i d).number.0 ≤ (get_or xs j d).number.0
rises low [] d i j rising order within = absurd (omega arith)
rises low (x ∷ xs) d zero zero rising order within = omega arith
rises low (x ∷ xs) d zero (suc j) rising order within = omega (arith, low_below (x.number.0 + 1) xs d j rising.1 (omega arith))
rises low (x ∷ xs) d (suc i) zero rising order within = absurd (omega arith)
rises low (x ∷ xs) d (suc i) (suc j) rising order within = rises (x.number.0 + 1) xs d i j rising.1 (omega arith) (omega arith)

-- ---- the search

none_numbered : (task : TaskNo) (xs : List Attempt) → ((i : ℕ) (d : Attempt) → i < length xs → (get_or xs i d).number.0 ≢ task.0) → attempt_numbered task xs ≡ None
none_numbered task [] differ = refl
none_numbered task (x ∷ xs) differ =
    grind (arith, nat_tests, differ 0 x (omega arith), none_numbered task xs (λ i d within. differ (suc i) d (omega arith)))

place_of : (task : TaskNo) (xs : List Attempt) (i : ℕ) → i < length xs → ((d : Attempt) → (get_or xs i d).number.0 ≡ task.0) → IsPlaceOf task xs i
place_of task [] i within same = absurd (omega arith)
place_of task (x ∷ xs) zero within same = ap Some (same x)
place_of task (x ∷ xs) (suc i) within same = place_of task xs i (omega arith) same

module _ (xs : List Attempt) (rising : RisingFrom 1 xs) (task : TaskNo) where
  comparisons_rise : IsNonDecreasingBy (λ a. ordering_index (nat_cmp a.number.0 task.0)) xs
  comparisons_rise i j d order within =
      let numbers = rises 1 xs d i j rising order within in
      grind (arith, nat_tests)

  differs : (i : ℕ) → IsPartitionPoint (λ a. nat_cmp a.number.0 task.0 ≡ Less) (λ a. nat_cmp a.number.0 task.0 ≡ Greater) xs i
      → (j : ℕ) (d : Attempt) → j < length xs → (get_or xs j d).number.0 ≢ task.0
  differs i parted j d within same = elim (cases_lt j i) [
    | inl below ↦ let less : (get_or xs j d).number.0 < task.0 = ranked _ task.0 _ (sym (parted.0 j d (omega arith) below)) in omega arith
    | inr above ↦ let greater : task.0 < (get_or xs j d).number.0 = ranked _ task.0 _ (sym (parted.1 j d above within)) in omega arith
  ]

  -- a binary search by number ends at the attempt of that number, or where there is none
  pub searched : (r : Result ℕ ℕ) → IsSearchInRange r (length xs) → IsBinarySearchResult (λ a. nat_cmp a.number.0 task.0) xs r
      → record { none : IfNone (result_ok r) (attempt_numbered task xs ≡ None); some : IfSome (result_ok r) (λ place. IsPlaceOf task xs place) }
  searched (Ok i) within equal = record { none = tt; some = place_of task xs i within (λ d. ranked _ task.0 _ (sym (equal d))) }
  searched (Err i) within parted = record { none = none_numbered task xs (differs i (parted comparisons_rise)); some = tt }

-- ---- what stands at the place

low_at : (low : ℕ) (task : TaskNo) (xs : List Attempt) (i : ℕ) → RisingFrom low xs → IsPlaceOf task xs i → low ≤ task.0
low_at low task [] i rising there = absurd cc
low_at low task (x ∷ xs) zero rising there = let same : x.number.0 ≡ task.0 = cc in omega (arith, rising.0)
low_at low task (x ∷ xs) (suc i) rising there = omega (arith, rising.0, low_at (x.number.0 + 1) task xs i rising.1 there)

pub numbered_at : (low : ℕ) (task : TaskNo) (xs : List Attempt) (i : ℕ) → RisingFrom low xs → IsPlaceOf task xs i → slice_get xs i ≡ attempt_numbered task xs
numbered_at low task [] i rising there = refl
numbered_at low task (x ∷ xs) zero rising there = let same : x.number.0 ≡ task.0 = cc in grind (arith, nat_tests)
numbered_at low task (x ∷ xs) (suc i) rising there =
    let above = low_at (x.number.0 + 1) task xs i rising.1 there in
    grind (arith, nat_tests, numbered_at (x.number.0 + 1) task xs i rising.1 there)

pub with_above : (low : ℕ) (a : Attempt) (xs : List Attempt) → RisingFrom low xs → a.number.0 < low → with_attempt a xs ≡ xs
with_above low a [] rising above = refl
with_above low a (x ∷ xs) rising above = grind (arith, nat_tests, rising.0, with_above (x.number.0 + 1) a xs rising.1 (omega (arith, rising.0)))

pub with_at : (low : ℕ) (a : Attempt) (xs : List Attempt) (i : ℕ) → RisingFrom low xs → IsPlaceOf a.number xs i → slice_set xs i a ≡ with_attempt a xs
with_at low a [] i rising there = refl
with_at low a (x ∷ xs) zero rising there =
    let same : x.number.0 ≡ a.number.0 = cc in
    grind (arith, nat_tests, with_above (x.number.0 + 1) a xs rising.1 (omega arith))
with_at low a (x ∷ xs) (suc i) rising there =
    let above = low_at (x.number.0 + 1) a.number xs i rising.1 there in
    grind (arith, nat_tests, with_at (x.number.0 + 1) a xs i rising.1 there)

-- a change at the place of a number is one of the attempt of that number
put_by : (xs ys : List Attempt) (i : ℕ) (change : Attempt → Attempt) → ((a : Attempt) → a.number ≡ (change a).number) → RisingFrom 1 xs → (o : Option Attempt)
    → option_map (λ a. a.number.0) o ≡ option_map (λ a. a.number.0) (slice_get xs i) → IsSome o → IfSome o (λ a. ys ≡ slice_set xs i (change a)) → IsSomeAnd o (λ a. ys ≡ with_attempt (change a) xs)
put_by xs ys i change keeps rising None same there set = let no : ⊥ = cc in absurd no
put_by xs ys i change keeps rising (Some a) same there set =
    set ∙ with_at 1 (change a) xs i rising (sym same ∙ ap (λ n. Some n.0) (keeps a))

place_there : (task : TaskNo) (o : Option Attempt) → option_map (λ a. a.number.0) o ≡ Some task.0 → IsSome o
place_there task None there = let no : ⊥ = cc in absurd no
place_there task (Some a) there = refl

pub put_at : (task : TaskNo) (xs ys : List Attempt) (i : ℕ) (change : Attempt → Attempt) → ((a : Attempt) → a.number ≡ (change a).number) → RisingFrom 1 xs → IsPlaceOf task xs i
    → IfSome (slice_get xs i) (λ a. ys ≡ slice_set xs i (change a)) → IsSomeAnd (attempt_numbered task xs) (λ a. ys ≡ with_attempt (change a) xs)
put_at task xs ys i change keeps rising there set =
    subst
    (λ o. IsSomeAnd o (λ a. ys ≡ with_attempt (change a) xs))
    (numbered_at 1 task xs i rising there)
    (put_by xs ys i change keeps rising (slice_get xs i) refl (place_there task (slice_get xs i) there) set)

pub place_within : (task : TaskNo) (xs : List Attempt) (i : ℕ) → IsPlaceOf task xs i → i < length xs
place_within task [] i there = absurd cc
place_within task (x ∷ xs) zero there = omega arith
place_within task (x ∷ xs) (suc i) there = let within = place_within task xs i there in omega arith

-- ---- the order after a replacement

with_number : (a x : Attempt) → (if is_numbered a.number x then a else x).number.0 ≡ x.number.0
with_number a x = grind (arith, nat_tests)

pub rising_with : (low : ℕ) (a : Attempt) (xs : List Attempt) → RisingFrom low xs → RisingFrom low (with_attempt a xs)
rising_with low a [] rising = tt
rising_with low a (x ∷ xs) rising =
    let same = with_number a x in
    (subst (λ n. low ≤ n) (sym same) rising.0, subst (λ n. RisingFrom (n + 1) (with_attempt a xs)) (sym same) (rising_with (x.number.0 + 1) a xs rising.1))
