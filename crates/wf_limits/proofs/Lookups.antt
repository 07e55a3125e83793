-- What is found under a name after an edit of the list.
use Rattle.std.proofs.Common.{◌≡◌, ◌≢◌, ℕ, zero, suc, ◌<◌, Bool, true, false, if◌then◌else◌, nat_eq, List, [], ◌∷◌, length, get_or, set, Some, None, refl, sym, ap, subst, ◌∙◌, arith}
use Rattle.std.specs.List.{insert}
use Rattle.std.specs.Cmp.Lexicographic.{pointwise, same_text}
use Rattle.std.proofs.lemmas.List.{get_or_default}
use Rattle.std.proofs.lemmas.Cmp.{nat_list_eq_equiv}
use Rattle.wf_limits.specs.Hands.{HandOuts, ChangesOnly, hand_outs_of, name_at, nameless, IsFirstAt, moments_of, count_of}

-- no place before i has the name
abbrev pub NotBefore : List HandOuts → List ℕ → ℕ → Type 0
NotBefore hands name i = (j : ℕ) → j < i → name_at hands j ≢ name

-- under its own name the hand is found, and under any other what was there
abbrev pub FindsAfter : List HandOuts → List HandOuts → HandOuts → Type 0
FindsAfter old new hand = (q : List ℕ) → hand_outs_of new q ≡ (if pointwise nat_eq hand.name q then Some hand else hand_outs_of old q)

itself : (xs : List ℕ) → pointwise nat_eq xs xs ≡ true
itself xs = nat_list_eq_equiv.refl xs

same_if : (xs ys : List ℕ) → pointwise nat_eq xs ys ≡ true → xs ≡ ys
same_if xs ys told = same_text xs ys (sym told)

not_same : (xs ys : List ℕ) → xs ≢ ys → pointwise nat_eq xs ys ≡ false
not_same xs ys apart = told (pointwise nat_eq xs ys) refl
  where
    told : (p : Bool) → pointwise nat_eq xs ys ≡ p → p ≡ false
    told true is = absurd (apart (same_if xs ys is))
    told false is = refl

-- two tests that can't both pass may be made in either order
either_order : {A : Type 0} (p r : Bool) (a b c : A) → (p ≡ true → r ≡ true → ⊥) → (if p then a else (if r then b else c)) ≡ (if r then b else (if p then a else c))
either_order true true a b c apart = absurd (apart refl refl)
either_order true false a b c apart = refl
either_order false true a b c apart = refl
either_order false false a b c apart = refl

differing : (x e q : List ℕ) → x ≢ e → pointwise nat_eq x q ≡ true → pointwise nat_eq e q ≡ true → ⊥
differing x e q apart left right = apart (same_if x q left ∙ sym (same_if e q right))

-- over the first place of the name another hand of that name is written
pub found-set : (hands : List HandOuts) (i : ℕ) (hand : HandOuts) → i < length hands → name_at hands i ≡ hand.name → NotBefore hands hand.name i → FindsAfter hands (set hands i hand) hand
found-set [] i hand within there before q = absurd (omega arith)
found-set (x ∷ hands) zero hand within there before q = either_same (pointwise nat_eq hand.name q) (ap (λ n. pointwise nat_eq n q) there)
  where
    either_same : (p : Bool) → pointwise nat_eq x.name q ≡ p → (if p then Some hand else hand_outs_of hands q) ≡ (if p then Some hand else hand_outs_of (x ∷ hands) q)
    either_same true told = refl
    either_same false told = rw told refl
found-set (x ∷ hands) (suc i) hand within there before q =
    ap (λ m. if pointwise nat_eq x.name q then Some x else m) (found-set hands i hand (omega arith) there (λ j below. before (suc j) (omega arith)) q)
    ∙ either_order (pointwise nat_eq x.name q) (pointwise nat_eq hand.name q) _ _ _ (differing x.name hand.name q (before zero (omega arith)))

-- before the name a new hand is put in
pub found-insert : (hands : List HandOuts) (i : ℕ) (hand : HandOuts) → NotBefore hands hand.name i → FindsAfter hands (insert hands i hand) hand
found-insert hands zero hand before q = refl
found-insert [] (suc i) hand before q = refl
found-insert (x ∷ hands) (suc i) hand before q =
    ap (λ m. if pointwise nat_eq x.name q then Some x else m) (found-insert hands i hand (λ j below. before (suc j) (omega arith)) q)
    ∙ either_order (pointwise nat_eq x.name q) (pointwise nat_eq hand.name q) _ _ _ (differing x.name hand.name q (before zero (omega arith)))

-- the first place of the name is what is found
pub found_at : (hands : List HandOuts) (name : List ℕ) (i : ℕ) → i < length hands → name_at hands i ≡ name → NotBefore hands name i → hand_outs_of hands name ≡ Some (get_or hands i nameless)
found_at [] name i within there before = absurd (omega arith)
found_at (x ∷ hands) name zero within there before = rw (ap (λ n. pointwise nat_eq n name) there ∙ itself name) refl
found_at (x ∷ hands) name (suc i) within there before =
    rw (not_same x.name name (before zero (omega arith))) (found_at hands name i (omega arith) there (λ j below. before (suc j) (omega arith)))

-- a name that no place has isn't found
pub not_found : (hands : List HandOuts) (name : List ℕ) → NotBefore hands name (length hands) → hand_outs_of hands name ≡ None
not_found [] name before = refl
not_found (x ∷ hands) name before = rw (not_same x.name name (before zero (omega arith))) (not_found hands name (λ j below. before (suc j) (omega arith)))

-- so all other names are as they were
pub changes_only : (old new : List HandOuts) (hand : HandOuts) → FindsAfter old new hand → ChangesOnly old new hand.name hand.moments hand.count
changes_only old new hand finds =
    let own : hand_outs_of new hand.name ≡ Some hand = finds hand.name ∙ rw (itself hand.name) refl in
    record {
      reserved = rw own refl;
      moments_are = rw own refl;
      count_is = rw own refl;
      others = λ other differs. finds other ∙ rw (not_same hand.name other (λ e. differs (sym e))) refl;
    }

-- a name that has a place keeps what it has
pub stays : (hands : List HandOuts) (name : List ℕ) (hand : HandOuts) → hand_outs_of hands name ≡ Some hand → ChangesOnly hands hands name (moments_of hands name) (count_of hands name)
stays hands name hand found = record { reserved = rw found refl; moments_are = refl; count_is = refl; others = λ other differs. refl }

-- what is read at the name's first place, and what a write there leaves
module _ (hands seen : List HandOuts) (seen_is : hands ≡ seen) (name : List ℕ) (at : ℕ) (first : IsFirstAt hands name at) (hand d : HandOuts) (read : hand ≡ get_or hands at d) where
  read_here : hand ≡ get_or hands at nameless
  read_here = read ∙ get_or_default hands at d nameless first.at.in_range

  pub found_first : hand_outs_of seen name ≡ Some hand
  found_first = subst (λ hs. hand_outs_of hs name ≡ Some hand) seen_is (found_at hands name at first.at.in_range first.at.has_name first.not_before ∙ ap Some (sym read_here))

  pub named_first : name ≡ hand.name
  named_first = sym (ap (λ (h : HandOuts). h.name) read_here ∙ first.at.has_name)

  pub moments_first : moments_of seen name ≡ hand.moments
  moments_first = rw found_first refl

  pub count_first : count_of seen name ≡ hand.count
  count_first = rw found_first refl

  pub writes_first : (new : HandOuts) → hand.name ≡ new.name → ChangesOnly seen (set hands at new) name new.moments new.count
  writes_first new same =
      let own = named_first ∙ same in
      subst (λ hs. ChangesOnly hs (set hands at new) name new.moments new.count) seen_is
      (subst (λ n. ChangesOnly hands (set hands at new) n new.moments new.count) (sym own)
      (changes_only _ _ new (found-set hands at new first.at.in_range (first.at.has_name ∙ own) (subst (λ n. NotBefore hands n at) own first.not_before))))
