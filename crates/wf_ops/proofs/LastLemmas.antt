-- The last attempt of its node and iteration, told by those behind it and by number.
use Rattle.std.proofs.Common.{◌≡◌, ◌↔◌, ℕ, ◌+◌, ◌≤◌, ◌&&◌, ◌||◌, ◌==◌, not, Bool, true, false, List, [], ◌∷◌, ◌++◌, Option, None, Some, refl, sym, ap, ◌∙◌, subst, arith}
use Rattle.std.proofs.lemmas.Bool.Decides.{nat_tests}
use Rattle.std.specs.List.{list_any}
use Rattle.wf_machine.specs.State.{Attempt, RisingFrom}
use Rattle.wf_machine.specs.Sight.{seen}
use Rattle.wf_machine.specs.Marks.{is_of}
use Rattle.wf_machine.specs.Operators.{is_last}
use Rattle.wf_flow.specs.Last.{greatest}
use Rattle.wf_flow.proofs.LastLemmas.{IfAt, at_least, last_among, last_greatest, later}

-- an attempt stands at its own node in its own iteration, where it isn't superseded
of_itself : (a : Attempt) → is_of a.node a.iteration (seen a) ≡ not a.superseded
of_itself a = let node : (a.node == a.node) ≡ true = grind (arith, nat_tests) in let iteration : (a.iteration == a.iteration) ≡ true = grind (arith, nat_tests) in rw (node, iteration) refl

-- none stands there exactly where the last among them is none
none_among : (node iteration : ℕ) (xs : List Attempt) → list_any (λ b. is_of node iteration (seen b)) xs ≡ false → last_among node iteration xs ≡ None
unfolding last_among
none_among node iteration [] none = refl
none_among node iteration (x ∷ xs) none = by_test (is_of node iteration (seen x)) none (λ rest. none_among node iteration xs rest) where
  by_test : (b : Bool) → (b || list_any (λ b. is_of node iteration (seen b)) xs) ≡ false → (list_any (λ b. is_of node iteration (seen b)) xs ≡ false → last_among node iteration xs ≡ None)
      → later b x (last_among node iteration xs) ≡ None
  by_test true none step = cc
  by_test false none step = rw (step none) refl

some_among : (node iteration : ℕ) (xs : List Attempt) → last_among node iteration xs ≡ None → list_any (λ b. is_of node iteration (seen b)) xs ≡ false
unfolding last_among
some_among node iteration [] none = refl
some_among node iteration (x ∷ xs) none = by_test (is_of node iteration (seen x)) (last_among node iteration xs) none (λ rest. some_among node iteration xs rest) where
  by_test : (b : Bool) (o : Option Attempt) → later b x o ≡ None → (o ≡ None → list_any (λ b. is_of node iteration (seen b)) xs ≡ false)
      → (b || list_any (λ b. is_of node iteration (seen b)) xs) ≡ false
  by_test b (Some y) none step = cc
  by_test true None none step = cc
  by_test false None none step = step refl

-- one behind others is the last among all
behind : (node iteration : ℕ) (before xs : List Attempt) (a : Attempt) → last_among node iteration xs ≡ Some a → last_among node iteration (before ++ xs) ≡ Some a
unfolding last_among
behind node iteration [] xs a last = last
behind node iteration (x ∷ before) xs a last = rw (behind node iteration before xs a last) refl

-- ---- with an attempt in the middle

last_then : (a : Attempt) (rest : List Attempt) → is_last a rest ≡ true → last_among a.node a.iteration (a ∷ rest) ≡ Some a
unfolding last_among
last_then a rest last = by_test a.superseded (list_any (λ b. is_of a.node a.iteration (seen b)) rest) refl refl last where
  by_test : (gone followed : Bool) → a.superseded ≡ gone → list_any (λ b. is_of a.node a.iteration (seen b)) rest ≡ followed → (not gone && not followed) ≡ true
      → later (is_of a.node a.iteration (seen a)) a (last_among a.node a.iteration rest) ≡ Some a
  by_test true followed g f last = cc
  by_test false true g f last = cc
  by_test false false g f last = rw (of_itself a, g, none_among a.node a.iteration rest f) refl

-- what is found among those behind has a greater number
not_behind : (a : Attempt) (rest : List Attempt) → RisingFrom (a.number.0 + 1) rest → last_among a.node a.iteration rest ≡ Some a → ⊥
not_behind a rest rising found =
    let above : IfAt (a.number.0 + 1) (Some a) = subst (IfAt (a.number.0 + 1)) found (at_least (a.number.0 + 1) a.node a.iteration rest rising) in omega (arith, above)

last_from : (a : Attempt) (rest : List Attempt) → RisingFrom (a.number.0 + 1) rest → last_among a.node a.iteration (a ∷ rest) ≡ Some a → is_last a rest ≡ true
unfolding last_among
last_from a rest rising last = by_found (last_among a.node a.iteration rest) refl last where
  by_gone : (gone : Bool) → a.superseded ≡ gone → last_among a.node a.iteration rest ≡ None → later (not gone) a None ≡ Some a → (not gone && not (list_any (λ b. is_of a.node a.iteration (seen b)) rest)) ≡ true
  by_gone true g none last = cc
  by_gone false g none last = rw (some_among a.node a.iteration rest none) refl

  by_found : (o : Option Attempt) → last_among a.node a.iteration rest ≡ o → later (is_of a.node a.iteration (seen a)) a o ≡ Some a → is_last a rest ≡ true
  by_found None found last = by_gone a.superseded refl found (subst (λ b. later b a None ≡ Some a) (of_itself a) last)
  by_found (Some x) found last = let same : x ≡ a = cc in absurd (not_behind a rest rising (found ∙ ap Some same))

rising_behind : (low : ℕ) (before : List Attempt) (a : Attempt) (rest : List Attempt) → RisingFrom low (before ++ a ∷ rest) → RisingFrom (a.number.0 + 1) rest
rising_behind low [] a rest rising = rising.1
rising_behind low (x ∷ before) a rest rising = rising_behind (x.number.0 + 1) before a rest rising.1

-- an attempt doesn't stand before itself
not_before : (low : ℕ) (before : List Attempt) (a : Attempt) (rest : List Attempt) → RisingFrom low (before ++ a ∷ rest) → low ≤ a.number.0
not_before low [] a rest rising = rising.0
not_before low (x ∷ before) a rest rising =
    let first = rising.0 in let more = not_before (x.number.0 + 1) before a rest rising.1 in omega (arith, first, more)

itself_before : (low : ℕ) (x : Attempt) (before : List Attempt) (a : Attempt) (rest : List Attempt) → RisingFrom low (x ∷ before ++ a ∷ rest) → x ≡ a → ⊥
itself_before low x before a rest rising same =
    let more = not_before (x.number.0 + 1) before a rest rising.1 in
    let equal : x.number.0 ≡ a.number.0 = ap (λ y. y.number.0) same in
    omega (arith, more, equal)

-- an attempt that is the last among all is so among those from it on
from_it : (low : ℕ) (before : List Attempt) (a : Attempt) (rest : List Attempt) → RisingFrom low (before ++ a ∷ rest) → last_among a.node a.iteration (before ++ a ∷ rest) ≡ Some a
    → last_among a.node a.iteration (a ∷ rest) ≡ Some a
unfolding last_among
from_it low [] a rest rising last = last
from_it low (x ∷ before) a rest rising last =
    by_found (last_among a.node a.iteration (before ++ a ∷ rest)) refl last (λ found. from_it (x.number.0 + 1) before a rest rising.1 found) where
      by_found : (o : Option Attempt) → last_among a.node a.iteration (before ++ a ∷ rest) ≡ o → later (is_of a.node a.iteration (seen x)) x o ≡ Some a
          → (last_among a.node a.iteration (before ++ a ∷ rest) ≡ Some a → last_among a.node a.iteration (a ∷ rest) ≡ Some a) → last_among a.node a.iteration (a ∷ rest) ≡ Some a
      by_found (Some y) found last step = step (found ∙ last)
      by_found None found last step = absurd (itself_before low x before a rest rising (by_one (is_of a.node a.iteration (seen x)) last)) where
        by_one : (b : Bool) → later b x None ≡ Some a → x ≡ a
        by_one true is = cc
        by_one false is = cc

pub last_is_greatest : (low : ℕ) (before : List Attempt) (a : Attempt) (rest : List Attempt) → RisingFrom low (before ++ a ∷ rest)
    → (is_last a rest ≡ true) ↔ (greatest a.node a.iteration (before ++ a ∷ rest) ≡ Some a)
last_is_greatest low before a rest rising =
    let same = last_greatest low a.node a.iteration (before ++ a ∷ rest) rising in
    let later_ones = rising_behind low before a rest rising in (
      λ last. sym same ∙ behind a.node a.iteration before (a ∷ rest) a (last_then a rest last),
      λ last. last_from a rest later_ones (from_it low before a rest rising (same ∙ last)),
    )
