-- The moments that are kept, after one more.
use Rattle.std.proofs.Common.{ℕ, ◌-◌, ◌≤◌, List, [], ◌∷◌, ◌++◌, length, get_or, arith, length-drop}
use Rattle.std.specs.Option.{ForSome}
use Rattle.std.specs.List.Sorted.{IsNonDecreasing}
use Rattle.std.proofs.lemmas.List.Sorted.{IsNonDecreasingBy-push, IsNonDecreasingBy-drop}
use Rattle.std.proofs.lemmas.Option.{slice_get-get_or}
use Rattle.circular_buffer.specs.Buffer.{keep_last, last_item}

-- a moment that is not below the last leaves them rising
rising_more : (xs : List ℕ) (moment : ℕ) → IsNonDecreasing xs → ForSome (last_item xs) (λ last. last ≤ moment) → IsNonDecreasing (xs ++ moment ∷ [])
rising_more xs moment rising order =
    IsNonDecreasingBy-push (λ x. x) xs moment rising (λ d some. order (get_or xs (length xs - 1) d) (slice_get-get_or xs (length xs - 1) d (omega arith)))

pub kept : (n : ℕ) (xs : List ℕ) (moment : ℕ) → IsNonDecreasing xs → ForSome (last_item xs) (λ last. last ≤ moment)
    → record { few : length (keep_last n (xs ++ moment ∷ [])) ≤ n; rising : IsNonDecreasing (keep_last n (xs ++ moment ∷ [])) }
kept n xs moment rising order =
    let all = xs ++ moment ∷ [] in
    record {
      few = omega (arith, length-drop (length all - n) all);
      rising = IsNonDecreasingBy-drop (λ x. x) (length all - n) all (rising_more xs moment rising order);
    }
