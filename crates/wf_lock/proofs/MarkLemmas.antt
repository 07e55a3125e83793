-- The last marked place, as the history grows.
use Rattle.std.proofs.Common.{◌≡◌, ℕ, zero, suc, ◌+◌, ◌<◌, ◌≤◌, ◌⊎◌, inl, inr, Bool, true, false, List, [], ◌∷◌, ◌++◌, length, sym, refl, ap, ◌∙◌, ⊎_elim, arith, le_refl}
use mathlib.Core.Option.{some, some-injective, some-ne-none}
use mathlib.Core.List.{IsPrefix}
use lib.ListN.{get_elem?}
use Rattle.std.specs.Prelude.{if◌then◌else◌}
use Rattle.std.specs.List.{fold}
use Rattle.wf_lock.specs.Places.{Has}
use Rattle.wf_lock.specs.Marks.{tally, last_marked, HasMarked}

pub at_inside : {A : Type 0} (l : List A) (i : ℕ) (a : A) → get_elem? l i ≡ some a → i < length l
at_inside [] i a e = absurd (some-ne-none a (sym e))
at_inside (x ∷ xs) zero a e = omega arith
at_inside (x ∷ xs) (suc i) a e = let h = at_inside xs i a e in omega arith

pub at_last : {A : Type 0} (xs : List A) (x : A) (k : ℕ) (a : A) → get_elem? (xs ++ x ∷ []) k ≡ some a → (get_elem? xs k ≡ some a) ⊎ ((k ≡ length xs) × (x ≡ a))
at_last [] x zero a e = inr (refl, some-injective _ _ e)
at_last [] x (suc k) a e = absurd (some-ne-none a (sym e))
at_last (y ∷ xs) x zero a e = inl e
at_last (y ∷ xs) x (suc k) a e = ⊎_elim (λ h. inl h) (λ h. inr (ap suc h.0, h.1)) (at_last xs x k a e)

at_beyond : {A : Type 0} (xs ys : List A) (k j : ℕ) → j ≡ k + length xs → get_elem? (xs ++ ys) j ≡ get_elem? ys k
at_beyond [] ys k j e = let same : j ≡ k = omega arith in ap (get_elem? ys) same
at_beyond (x ∷ xs) ys k zero e = absurd (omega arith)
at_beyond (x ∷ xs) ys k (suc j) e = at_beyond xs ys k j (omega arith)

pub fold_append : {A S : Type 0} (f : S → A → S) (s : S) (xs ys : List A) → fold f s (xs ++ ys) ≡ fold f (fold f s xs) ys
fold_append f s [] ys = refl
fold_append f s (x ∷ xs) ys = fold_append f (f s x) xs ys

module _ {E : Type 0} (marked : E → Bool) where
  pub counts : (s : ℕ × ℕ) (xs : List E) → (fold (tally marked) s xs).0 ≡ s.0 + length xs
  counts s [] = omega arith
  counts s (x ∷ xs) = let h = counts (tally marked s x) xs in omega arith

  tallied : (s : ℕ × ℕ) (c : Bool) → s.1 ≤ s.0 → (s.1 ≤ (if c then s.0 + 1 else s.1)) × ((if c then s.0 + 1 else s.1) ≤ s.0 + 1)
  tallied s true l = (omega arith, omega arith)
  tallied s false l = (le_refl s.1, omega arith)

  rises : (s : ℕ × ℕ) (xs : List E) → s.1 ≤ s.0 → (s.1 ≤ (fold (tally marked) s xs).1) × ((fold (tally marked) s xs).1 ≤ (fold (tally marked) s xs).0)
  rises s [] l = (le_refl s.1, l)
  rises s (x ∷ xs) l = let t = tallied s (marked x) l in let h = rises (tally marked s x) xs t.1 in let l1 = t.0 in let l2 = h.0 in (omega arith, h.1)

  -- the last marked place doesn't fall as the list grows
  pub last_marked_grows : (xs ys : List E) → IsPrefix xs ys → last_marked marked xs ≤ last_marked marked ys
  last_marked_grows xs ys p = let h = (rises (fold (tally marked) (0, 0) xs) p.0 (rises (0, 0) xs (le_refl 0)).1).0 in
      let e = ap (λ z. last_marked marked z) p.1 in let f = ap (λ (z : ℕ × ℕ). z.1) (fold_append (tally marked) (0, 0) xs p.0) in omega arith

  no_mark : (s : ℕ × ℕ) (c : Bool) → (c ≡ true → ⊥) → (if c then s.0 + 1 else s.1) ≡ s.1
  no_mark s true not_so = absurd (not_so refl)
  no_mark s false not_so = refl

  unmarked : (s : ℕ × ℕ) (xs : List E) → ((k : ℕ) (e : E) → get_elem? xs k ≡ some e → marked e ≡ true → ⊥) → (fold (tally marked) s xs).1 ≡ s.1
  unmarked s [] none_is = refl
  unmarked s (x ∷ xs) none_is = unmarked (tally marked s x) xs (λ k e. none_is (suc k) e) ∙ no_mark s (marked x) (none_is 0 x refl)

  -- no marked entry stands behind the first list
  pub last_marked_same : (xs ys : List E) → ((k : ℕ) (e : E) → get_elem? ys k ≡ some e → marked e ≡ true → ⊥) → last_marked marked (xs ++ ys) ≡ last_marked marked xs
  last_marked_same xs ys none_is = ap (λ (z : ℕ × ℕ). z.1) (fold_append (tally marked) (0, 0) xs ys) ∙ unmarked (fold (tally marked) (0, 0) xs) ys none_is

  pub last_marked_inside : (xs : List E) → last_marked marked xs ≤ length xs
  last_marked_inside xs = let h = (rises (0, 0) xs (le_refl 0)).1 in let c = counts (0, 0) xs in omega arith

  -- what stands behind this pass's own entries isn't marked
  pub last_marked_own : (xs log : List E) (own : List ℕ) → IsPrefix xs log → HasMarked marked log own → ((p : ℕ) → Has p own → p ≤ length xs) → last_marked marked log ≡ last_marked marked xs
  last_marked_own xs log own p all inside = ap (last_marked marked) (sym p.1) ∙ last_marked_same xs p.0
      (λ k e at is. let l = inside (k + length xs + 1) (all (k + length xs) e (ap (λ (z : List E). get_elem? z (k + length xs)) (sym p.1) ∙ (at_beyond xs p.0 k (k + length xs) refl ∙ at)) is) in omega arith)

  -- the last marked place with one more entry
  pub last_marked_snoc : (xs : List E) (x : E) (n : ℕ) → length xs ≡ n → last_marked marked (xs ++ x ∷ []) ≡ (if marked x then n + 1 else last_marked marked xs)
  last_marked_snoc xs x n e = let c = counts (0, 0) xs in let same : (fold (tally marked) (0, 0) xs).0 ≡ n = omega arith in
      ap (λ (z : ℕ × ℕ). z.1) (fold_append (tally marked) (0, 0) xs (x ∷ [])) ∙ ap (λ (k : ℕ). if marked x then k + 1 else last_marked marked xs) same
