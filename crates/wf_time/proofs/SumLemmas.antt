-- A sum of groups that is cut off at the longest duration, group by group.
use Rattle.std.proofs.Common.{◌≡◌, ◌∙◌, ℕ, ◌+◌, ◌<◌, ◌≤◌, true, false, leb, List, [], ◌∷◌, Option, None, Some, refl, sym, ap, arith, inl, inr}
use Rattle.std.proofs.lemmas.Bool.{cases_lt}
use Rattle.std.proofs.lemmas.Bool.Decides.{nat_tests}
use Rattle.wf_time.specs.Durations.{capped, duration_in, group_seconds, seconds_in, sum_of}

pub capped_within : (n : ℕ) → n ≤ 2147483647 → capped (Some n) ≡ Some n
capped_within n within = let test : leb n 2147483647 ≡ true = grind (arith, nat_tests) in rw test refl

pub capped_past : (n : ℕ) → 2147483647 < n → capped (Some n) ≡ None
capped_past n past = let test : leb n 2147483647 ≡ false = grind (arith, nat_tests) in rw test refl

capped_cases : (x : Option ℕ) (n : ℕ) → capped x ≡ Some n → (x ≡ Some n) × (n ≤ 2147483647)
capped_cases None n h = absurd cc
capped_cases (Some m) n h =
    elim (cases_lt 2147483647 m) [
      | inl past ↦ let none = capped_past m past in absurd cc
      | inr within ↦ let some = capped_within m within in let same : m ≡ n = cc in (ap Some same, omega arith)
    ]

-- nothing brings a sum back that is too great
pub sum_past : (n : ℕ) (more : Option ℕ) → 2147483647 < n → capped (sum_of (Some n) more) ≡ None
sum_past n None past = refl
sum_past n (Some m) past = capped_past (n + m) (omega arith)

pub sum_twice : (n m : ℕ) (more : Option ℕ) → sum_of (Some n) (sum_of (Some m) more) ≡ sum_of (Some (n + m)) more
sum_twice n m None = refl
sum_twice n m (Some k) = ap Some (omega arith)

sum_none : (sum : ℕ) (group more : Option ℕ) → capped group ≡ None → capped (sum_of (Some sum) (sum_of group more)) ≡ None
sum_none sum None more none = refl
sum_none sum (Some g) None none = refl
sum_none sum (Some g) (Some m) none =
    elim (cases_lt 2147483647 g) [
      | inl past ↦ capped_past (sum + (g + m)) (omega arith)
      | inr within ↦ let some = capped_within g within in absurd cc
    ]

-- what is left of the text after a sum, and what the two say together
pub record IsSum (all left : List (List ℕ)) (sum : ℕ) : Type 0 where
  pub bound : sum ≤ 2147483647
  pub same : capped (seconds_in all) ≡ capped (sum_of (Some sum) (seconds_in left))

pub sum_ends : (all left : List (List ℕ)) (sum : ℕ) → IsSum all left sum → left ≡ [] → Some sum ≡ capped (seconds_in all)
sum_ends all left sum is end =
    sym (is.same ∙ ap (λ ws. capped (sum_of (Some sum) (seconds_in ws))) end ∙ capped_within (sum + 0) (omega (arith, is.bound)) ∙ ap Some (omega arith))

pub sum_odd : (all left rest : List (List ℕ)) (sum : ℕ) (number : List ℕ) → IsSum all left sum → left ≡ number ∷ rest → rest ≡ [] → None ≡ capped (seconds_in all)
sum_odd all left rest sum number is one end =
    sym (is.same ∙ ap (λ ws. capped (sum_of (Some sum) (seconds_in ws))) (one ∙ ap (λ ws. number ∷ ws) end))

module _ (all left rest more : List (List ℕ)) (sum : ℕ) (number unit : List ℕ) (is : IsSum all left sum) (one : left ≡ number ∷ rest) (two : rest ≡ unit ∷ more) where
  pair : capped (seconds_in all) ≡ capped (sum_of (Some sum) (sum_of (group_seconds number unit) (seconds_in more)))
  pair = is.same ∙ ap (λ ws. capped (sum_of (Some sum) (seconds_in ws))) (one ∙ ap (λ ws. number ∷ ws) two)

  pub pair_none : capped (group_seconds number unit) ≡ None → None ≡ capped (seconds_in all)
  pair_none none = sym (pair ∙ sum_none sum (group_seconds number unit) (seconds_in more) none)

  joined : (n : ℕ) → capped (group_seconds number unit) ≡ Some n → capped (seconds_in all) ≡ capped (sum_of (Some (sum + n)) (seconds_in more))
  joined n some =
      let group = capped_cases (group_seconds number unit) n some in
      pair ∙ ap (λ g. capped (sum_of (Some sum) (sum_of g (seconds_in more)))) group.0 ∙ ap capped (sum_twice sum n (seconds_in more))

  pub pair_past : (n : ℕ) → capped (group_seconds number unit) ≡ Some n → 2147483647 < sum + n → None ≡ capped (seconds_in all)
  pair_past n some past = sym (joined n some ∙ sum_past (sum + n) (seconds_in more) past)

  pub pair_added : (n : ℕ) → capped (group_seconds number unit) ≡ Some n → sum + n ≤ 2147483647 → IsSum all more (sum + n)
  pair_added n some within = record { bound = within; same = joined n some }

pub group_bound : (number unit : List ℕ) (n : ℕ) → capped (group_seconds number unit) ≡ Some n → n ≤ 2147483647
group_bound number unit n some = (capped_cases (group_seconds number unit) n some).1

pub any_words : (word : List ℕ) (rest words : List (List ℕ)) → words ≡ word ∷ rest → duration_in words ≡ capped (seconds_in words)
any_words word rest [] is = absurd cc
any_words word rest (w ∷ ws) is = refl
