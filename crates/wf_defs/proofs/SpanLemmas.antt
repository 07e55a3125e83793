-- Where a text closes brackets, byte by byte from its end.
use Rattle.std.proofs.Common.{◌≡◌, ◌∙◌, ap, sym, refl, ℕ, suc, ◌+◌, ◌-◌, ◌<◌, ◌≤◌, Bool, true, false, List, ◌∷◌, length, drop, get_or, arith, add-one}
use Rattle.std.specs.Prelude.{nat_le}
use Rattle.std.specs.Option.{option_map_or}
use Rattle.std.proofs.Math.Seq.{drop-cons}
use Rattle.std.proofs.lemmas.List.{drop_all, drop-drop}
use Rattle.std.proofs.lemmas.Bool.Decides.{nat_tests}
use Rattle.wf_defs.specs.Condition.{is_empty, after_rest, is_end, is_within, IsSpan}
use Rattle.wf_defs.proofs.ClosingLemmas.{rest_has_none, open_later}

pub inside : (first end p : ℕ) → first ≤ p → p < end → is_within first end p ≡ true
inside first end p low high =
    let a : nat_le first p ≡ true = grind (arith, nat_tests) in
    let b : nat_le end p ≡ false = grind (arith, nat_tests) in
    rw (a, b) refl

pub before_it : (first end p : ℕ) → p < first → is_within first end p ≡ false
before_it first end p low =
    let a : nat_le first p ≡ false = grind (arith, nat_tests) in
    rw a refl

pub behind_it : (first end p : ℕ) → end ≤ p → is_within first end p ≡ false
behind_it first end p high = by (nat_le first p) refl
  where
    a : nat_le end p ≡ true
    a = grind (arith, nat_tests)

    by : (v : Bool) → nat_le first p ≡ v → is_within first end p ≡ false
    by true e = rw (e, a) refl
    by false e = rw e refl

-- at the end of the text
pub span_start : (t : List ℕ) → IsSpan t (length t) (length t) (length t)
span_start t p low high = ap (is_end true) (drop_all p t low) ∙ sym (behind_it (length t) (length t) p low)

step : (t : List ℕ) (i first end : ℕ) → is_end true (drop i t) ≡ is_within first end i → ((p : ℕ) → i + 1 ≤ p → p ≤ length t → is_end true (drop p t) ≡ is_within first end p) → IsSpan t i first end
step t i first end here later p low high = by (nat_le (i + 1) p) refl
  where
    by : (v : Bool) → nat_le (i + 1) p ≡ v → is_end true (drop p t) ≡ is_within first end p
    by true e = later p (grind (arith, nat_tests)) high
    by false e =
        let same : p ≡ i = grind (arith, nat_tests) in
        ap (λ q. is_end true (drop q t)) same ∙ here ∙ ap (is_within first end) (sym same)

split : (t : List ℕ) (i b : ℕ) → i < length t → get_or t i 0 ≡ b → drop i t ≡ b ∷ drop (i + 1) t
split t i b within is = drop-cons t i 0 within ∙ ap (λ x. x ∷ drop (suc i) t) is ∙ ap (λ n. b ∷ drop n t) (sym (add-one i))

-- a blank before the span widens it
pub span_blank : (t : List ℕ) (i first end : ℕ) → i < length t → get_or t i 0 ≡ 32 → first ≡ i + 1 → first < end → IsSpan t (i + 1) first end → IsSpan t i i end
span_blank t i first end within is next some span =
    step t i i end
    (ap (is_end true) (split t i 32 within is)
    ∙ span (i + 1) (omega arith) (omega (arith, within))
    ∙ inside first end (i + 1) (omega (arith, next)) (omega (arith, next, some))
    ∙ sym (inside i end i (omega arith) (omega (arith, next, some))))
    (λ p low high. span p low high ∙ inside_same p low)
  where
    inside_same : (p : ℕ) → i + 1 ≤ p → is_within first end p ≡ is_within i end p
    inside_same p low =
        let a : nat_le first p ≡ true = grind (arith, nat_tests) in
        let b : nat_le i p ≡ true = grind (arith, nat_tests) in
        rw (a, b) refl

-- another blank doesn't
pub span_past : (t : List ℕ) (i first end : ℕ) → i < length t → get_or t i 0 ≡ 32 → i < first → is_within first end (i + 1) ≡ false → IsSpan t (i + 1) first end → IsSpan t i first end
span_past t i first end within is low out span =
    step t i first end
    (ap (is_end true) (split t i 32 within is)
    ∙ span (i + 1) (omega arith) (omega (arith, within))
    ∙ out
    ∙ sym (before_it first end i low))
    span

-- a `)` that the rest closes is the whole span
pub span_paren : (t : List ℕ) (i : ℕ) → i < length t → get_or t i 0 ≡ 41 → option_map_or is_empty (after_rest (drop (i + 1) t)) false ≡ true → IsSpan t i i (i + 1)
span_paren t i within is closes =
    step t i i (i + 1)
    (ap (is_end true) (split t i 41 within is) ∙ closes ∙ sym (inside i (i + 1) i (omega arith) (omega arith)))
    (λ p low high.
    ap (is_end true) (deeper p low)
    ∙ open_later (drop (i + 1) t) (p - (i + 1)) (rest_has_none (drop (i + 1) t) closes)
    ∙ sym (behind_it i (i + 1) p low))
  where
    deeper : (p : ℕ) → i + 1 ≤ p → drop p t ≡ drop (p - (i + 1)) (drop (i + 1) t)
    deeper p low =
        let e : i + 1 + (p - (i + 1)) ≡ p = omega (arith, low) in
        ap (λ n. drop n t) (sym e) ∙ sym (drop-drop (p - (i + 1)) (i + 1) t)

-- and what is neither leaves it
pub span_other : (t : List ℕ) (i first end b : ℕ) → i < length t → get_or t i 0 ≡ b → is_end true (b ∷ drop (i + 1) t) ≡ false → i < first → IsSpan t (i + 1) first end → IsSpan t i first end
span_other t i first end b within is shut low span =
    step t i first end (ap (is_end true) (split t i b within is) ∙ shut ∙ sym (before_it first end i low)) span
