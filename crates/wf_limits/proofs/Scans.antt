-- What a scan from the front has found so far.
use Rattle.std.proofs.Common.{◌≡◌, ℕ, ◌+◌, ◌<◌, ◌≤◌, true, false, nat_eq, List, [], length, get_or, None, sym, ap, ◌∙◌, inl, inr, subst, arith}
use Rattle.std.specs.List.{insert}
use Rattle.std.specs.Cmp.Lexicographic.{pointwise, same_text, other_text}
use Rattle.std.proofs.lemmas.List.{get_or_default}
use Rattle.std.proofs.lemmas.Bool.{cases_lt}
use Rattle.wf_limits.specs.Hands.{HandOuts, ChangesOnly, IsFirstAt, hand_outs_of, name_at, nameless, moments_of, count_of}
use Rattle.wf_limits.proofs.Lookups.{NotBefore, changes_only, found-insert, found_at, not_found, stays}

module _ (hands seen : List HandOuts) (seen_is : hands ≡ seen) (name : List ℕ) (at : ℕ) (hand d : HandOuts) (read : hand ≡ get_or hands at d) (within : at < length hands) (before : NotBefore seen name at) where
  read_name : name_at seen at ≡ hand.name
  read_name = subst (λ hs. name_at hs at ≡ hand.name) seen_is (sym (ap (λ (h : HandOuts). h.name) (read ∙ get_or_default hands at d nameless within)))

  pub scan_hit : true ≡ pointwise nat_eq hand.name name → IsFirstAt seen name at
  scan_hit told = record { at = record { in_range = subst (λ hs. at < length hs) seen_is within; has_name = read_name ∙ same_text hand.name name told }; not_before = before }

  pub scan_more : false ≡ pointwise nat_eq hand.name name → NotBefore seen name (at + 1)
  scan_more told j below same = elim (cases_lt j at) [
    | inl earlier ↦ before j earlier same
    | inr later ↦
        let here : j ≡ at = omega (arith, later, below) in
        other_text hand.name name told (sym read_name ∙ subst (λ k. name_at seen k ≡ name) here same)
  ]

pub scan_end : (hands seen : List HandOuts) (seen_is : hands ≡ seen) (name : List ℕ) (n at : ℕ) → n ≡ length hands → n ≤ at → NotBefore seen name at → hand_outs_of seen name ≡ None
scan_end hands seen seen_is name n at all past before =
    not_found seen name (λ j below. before j (omega (arith, below, all, past, ap (λ (hs : List HandOuts). length hs) seen_is)))

pub puts_first : (hands : List HandOuts) (name : List ℕ) → hand_outs_of hands name ≡ None → ChangesOnly hands (insert hands 0 (record { name = name; moments = []; count = 0 })) name (moments_of hands name) (count_of hands name)
puts_first hands name absent = rw absent (changes_only _ _ (record { name = name; moments = []; count = 0 }) (found-insert hands 0 (record { name = name; moments = []; count = 0 }) (λ j below same. absurd (omega (arith, below)))))

pub stays_first : (hands : List HandOuts) (name : List ℕ) (at : ℕ) → IsFirstAt hands name at → ChangesOnly hands hands name (moments_of hands name) (count_of hands name)
stays_first hands name at first = stays hands name _ (found_at hands name at first.at.in_range first.at.has_name first.not_before)
