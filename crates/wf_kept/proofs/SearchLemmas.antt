-- What a binary search finds among items whose numbers rise.
use Rattle.std.proofs.Common.{◌≡◌, ◌≢◌, ◌∙◌, ◌++◌, ℕ, zero, suc, ◌+◌, ◌<◌, ◌≤◌, ◌==◌, Bool, true, false, cond, List, [], ◌∷◌, length, get_or, slice_get, map, Option, None, Some, Result, Ok, Err, IfNone, IfSome, option_map, refl, sym, ap, inl, inr, arith}
use Rattle.std.specs.List.{find}
use Rattle.std.specs.List.Sorted.{IsSearchInRange, IsBinarySearchResult, IsNonDecreasingBy, IsPartitionPoint}
use Rattle.std.specs.Result.{result_ok}
use Rattle.std.specs.declared.cmp.Ordering.TheVariants.{Less, Greater}
use Rattle.std.proofs.lemmas.Bool.{cases_lt}
use Rattle.std.specs.Ordering.{nat_cmp, ordering_index}
use Rattle.std.proofs.lemmas.Cmp.{ranked}
use Rattle.std.proofs.lemmas.Bool.Decides.{nat_tests}
use Rattle.wf_kept.specs.Rising.{IsPlaceOf, RisesTo}

module _ {T : Type 0} (number : T → ℕ) where
  -- ---- rising numbers

  low_below : (low high : ℕ) (xs : List T) (d : T) (j : ℕ) → RisesTo number low high xs → j < length xs → low ≤ number (get_or xs j d)
  low_below low high [] d j rising within = absurd (omega arith)
  low_below low high (x ∷ xs) d zero rising within = rising.0
  low_below low high (x ∷ xs) d (suc j) rising within = omega (arith, rising.0, low_below (number x + 1) high xs d j rising.1 (omega arith))

  rises : (low high : ℕ) (xs : List T) (d : T) (i j : ℕ) → RisesTo number low high xs → i ≤ j → j < length xs → number (get_or xs i d) ≤ number (get_or xs j d)
  rises low high [] d i j rising order within = absurd (omega arith)
  rises low high (x ∷ xs) d zero zero rising order within = omega arith
  rises low high (x ∷ xs) d zero (suc j) rising order within = omega (arith, low_below (number x + 1) high xs d j rising.1 (omega arith))
  rises low high (x ∷ xs) d (suc i) zero rising order within = absurd (omega arith)
  rises low high (x ∷ xs) d (suc i) (suc j) rising order within = rises (number x + 1) high xs d i j rising.1 (omega arith) (omega arith)

  -- ---- the search

  none_numbered : (n : ℕ) (xs : List T) → ((i : ℕ) (d : T) → i < length xs → number (get_or xs i d) ≢ n) → find (λ x. number x == n) xs ≡ None
  none_numbered n [] differ = refl
  none_numbered n (x ∷ xs) differ =
      grind (arith, nat_tests, differ 0 x (omega arith), none_numbered n xs (λ i d within. differ (suc i) d (omega arith)))

  place_of : (n : ℕ) (xs : List T) (i : ℕ) → i < length xs → ((d : T) → number (get_or xs i d) ≡ n) → IsPlaceOf number n xs i
  place_of n [] i within same = absurd (omega arith)
  place_of n (x ∷ xs) zero within same = ap Some (same x)
  place_of n (x ∷ xs) (suc i) within same = place_of n xs i (omega arith) same

  -- what a search by number answers: the place of the number, or that there is none
  pub record Searched (n : ℕ) (xs : List T) (r : Option ℕ) : Type 0 where
    pub none : IfNone r (find (λ x. number x == n) xs ≡ None)
    pub some : IfSome r (λ place. IsPlaceOf number n xs place)

  module _ (high : ℕ) (xs : List T) (rising : RisesTo number 1 high xs) (n : ℕ) where
    comparisons_rise : IsNonDecreasingBy (λ x. ordering_index (nat_cmp (number x) n)) xs
    comparisons_rise i j d order within =
        let numbers = rises 1 high xs d i j rising order within in
        grind (arith, nat_tests)

    differs : (i : ℕ) → IsPartitionPoint (λ x. nat_cmp (number x) n ≡ Less) (λ x. nat_cmp (number x) n ≡ Greater) xs i
        → (j : ℕ) (d : T) → j < length xs → number (get_or xs j d) ≢ n
    differs i parted j d within same = elim (cases_lt j i) [
      | inl below ↦ let less : number (get_or xs j d) < n = ranked _ n _ (sym (parted.0 j d (omega arith) below)) in omega arith
      | inr above ↦ let greater : n < number (get_or xs j d) = ranked _ n _ (sym (parted.1 j d above within)) in omega arith
    ]

    pub searched : (r : Result ℕ ℕ) → IsSearchInRange r (length xs) → IsBinarySearchResult (λ x. nat_cmp (number x) n) xs r → Searched n xs (result_ok r)
    searched (Ok i) within equal = record { none = tt; some = place_of n xs i within (λ d. ranked _ n _ (sym (equal d))) }
    searched (Err i) within parted = record { none = none_numbered n xs (differs i (parted comparisons_rise)); some = tt }

  -- ---- what stands at the place

  pub low_at : (low high n : ℕ) (xs : List T) (i : ℕ) → RisesTo number low high xs → IsPlaceOf number n xs i → low ≤ n
  low_at low high n [] i rising there = absurd cc
  low_at low high n (x ∷ xs) zero rising there = let same : number x ≡ n = cc in omega (arith, rising.0)
  low_at low high n (x ∷ xs) (suc i) rising there = omega (arith, rising.0, low_at (number x + 1) high n xs i rising.1 there)

  pub found_at : (low high n : ℕ) (xs : List T) (i : ℕ) → RisesTo number low high xs → IsPlaceOf number n xs i → slice_get xs i ≡ find (λ x. number x == n) xs
  found_at low high n [] i rising there = refl
  found_at low high n (x ∷ xs) zero rising there = let same : number x ≡ n = cc in grind (arith, nat_tests)
  found_at low high n (x ∷ xs) (suc i) rising there =
      let above = low_at (number x + 1) high n xs i rising.1 there in
      grind (arith, nat_tests, found_at (number x + 1) high n xs i rising.1 there)

  -- ---- an item that a test finds is found by its number

  low_found : (low high : ℕ) (p : T → Bool) (xs : List T) (x : T) → RisesTo number low high xs → find p xs ≡ Some x → low ≤ number x
  low_found low high p [] x rising found = absurd cc
  low_found low high p (y ∷ ys) x rising found =
      elim (p y) as (λ b. cond b (Some y) (find p ys) ≡ Some x → low ≤ number x) [
        | true ↦ λ f. let same : y ≡ x = cc in let numbers = ap number same in omega (arith, rising.0)
        | false ↦ λ f. omega (arith, rising.0, low_found (number y + 1) high p ys x rising.1 f)
      ] found

  pub found_itself : (low high : ℕ) (p : T → Bool) (xs : List T) (x : T) → RisesTo number low high xs → find p xs ≡ Some x → find (λ y. number y == number x) xs ≡ Some x
  found_itself low high p [] x rising found = absurd cc
  found_itself low high p (y ∷ ys) x rising found =
      elim (p y) as (λ b. cond b (Some y) (find p ys) ≡ Some x → find (λ z. number z == number x) (y ∷ ys) ≡ Some x) [
        | true ↦ λ f. let same : y ≡ x = cc in let numbers = ap number same in grind (arith, nat_tests)
        | false ↦ λ f.
            let above = low_found (number y + 1) high p ys x rising.1 f in
            grind (arith, nat_tests, found_itself (number y + 1) high p ys x rising.1 f)
      ] found

  -- ---- longer lists

  pub rises_lower : (low mid high : ℕ) (xs : List T) → low ≤ mid → RisesTo number mid high xs → RisesTo number low high xs
  rises_lower low mid high [] order rising = omega arith
  rises_lower low mid high (x ∷ xs) order rising = (omega (arith, rising.0), rising.1)

  pub rises_append : (low mid high : ℕ) (xs ys : List T) → RisesTo number low mid xs → RisesTo number mid high ys → RisesTo number low high (xs ++ ys)
  rises_append low mid high [] ys below above = rises_lower low mid high ys below above
  rises_append low mid high (x ∷ xs) ys below above = (below.0, rises_append (number x + 1) mid high xs ys below.1 above)

  pub rises_range : (low high : ℕ) (xs : List T) → RisesTo number low high xs → low ≤ high
  rises_range low high [] rising = rising
  rises_range low high (x ∷ xs) rising = omega (arith, rising.0, rises_range (number x + 1) high xs rising.1)

-- ---- the same of the items that a function makes

module _ {S T : Type 0} (f : S → T) where
  pub rises_made : (number : T → ℕ) (low high : ℕ) (xs : List S) → RisesTo number low high (map f xs) → RisesTo (λ x. number (f x)) low high xs
  rises_made number low high [] rising = rising
  rises_made number low high (x ∷ xs) rising = (rising.0, rises_made number (number (f x) + 1) high xs rising.1)

  pub find_made : (p : T → Bool) (xs : List S) → find p (map f xs) ≡ option_map f (find (λ x. p (f x)) xs)
  find_made p [] = refl
  find_made p (x ∷ xs) =
      elim (p (f x)) as (λ b. cond b (Some (f x)) (find p (map f xs)) ≡ option_map f (cond b (Some x) (find (λ y. p (f y)) xs))) [
        | true ↦ refl
        | false ↦ find_made p xs
      ]

  pub place_made : (number : T → ℕ) (n : ℕ) (xs : List S) (i : ℕ) → IsPlaceOf (λ x. number (f x)) n xs i → IsPlaceOf number n (map f xs) i
  place_made number n [] i there = absurd cc
  place_made number n (x ∷ xs) zero there = there
  place_made number n (x ∷ xs) (suc i) there = place_made number n xs i there

  pub searched_made : (number : T → ℕ) (n : ℕ) (xs : List S) (r : Option ℕ) → Searched (λ x. number (f x)) n xs r → Searched number n (map f xs) r
  searched_made number n xs None told = record { none = find_made (λ x. number x == n) xs ∙ ap (option_map f) told.none; some = tt }
  searched_made number n xs (Some i) told = record { none = tt; some = place_made number n xs i told.some }
