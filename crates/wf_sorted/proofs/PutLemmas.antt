-- Entries may be put in in any order, and one that was put in can be taken out again.
use Rattle.std.proofs.Common.{◌≡◌, ◌∙◌, ℕ, true, false, if◌then◌else◌, List, [], ◌∷◌, refl, sym, ap, arith}
use Rattle.std.proofs.lemmas.Bool.Decides.{nat_tests}
use Rattle.wf_sorted.specs.declared.entry.Entry.{Entry}
use Rattle.wf_sorted.specs.Order.{is_before, is_same, put, without}
use Rattle.wf_sorted.proofs.OrderLemmas.{before_back, before_not_same}

same_moment : (a b : Entry) → is_before a b ≡ false → is_before b a ≡ false → a.moment ≡ b.moment
same_moment a b p q = grind (arith, nat_tests)

same_number : (a b : Entry) → is_before a b ≡ false → is_before b a ≡ false → a.number ≡ b.number
same_number a b p q = grind (arith, nat_tests)

pub same_entry : (a b : Entry) → is_before a b ≡ false → is_before b a ≡ false → a ≡ b
same_entry a b p q =
    let at : ℕ → Entry = λ m. record { moment = m; number = a.number } in
    let numbered : ℕ → Entry = λ n. record { moment = b.moment; number = n } in
    ap at (same_moment a b p q) ∙ ap numbered (same_number a b p q)

later_before : (x a b : Entry) → is_before x a ≡ true → is_before x b ≡ false → is_before b a ≡ true
later_before x a b p q = grind (arith, nat_tests)

itself : (a : Entry) → is_same a a ≡ true
itself a = grind (arith, nat_tests)

pub put_before : (x e : Entry) (xs : List Entry) → is_before x e ≡ true → put e (x ∷ xs) ≡ x ∷ put e xs
put_before x e xs h = rw h refl

pub put_first : (x e : Entry) (xs : List Entry) → is_before x e ≡ false → put e (x ∷ xs) ≡ e ∷ x ∷ xs
put_first x e xs h = rw h refl

two : (a b : Entry) (xs : List Entry) → (if is_before b a then b ∷ a ∷ xs else a ∷ b ∷ xs) ≡ (if is_before a b then a ∷ b ∷ xs else b ∷ a ∷ xs)
two a b xs =
    elim (is_before b a) as (λ p. is_before b a ≡ p → (if p then b ∷ a ∷ xs else a ∷ b ∷ xs) ≡ (if is_before a b then a ∷ b ∷ xs else b ∷ a ∷ xs)) [
      | true ↦ λ h. rw (before_back b a h) refl
      | false ↦ λ h. elim (is_before a b) as (λ q. is_before a b ≡ q → a ∷ b ∷ xs ≡ (if q then a ∷ b ∷ xs else b ∷ a ∷ xs)) [
        | true ↦ λ g. refl
        | false ↦ λ g. ap (λ (e : Entry). e ∷ b ∷ xs) (same_entry a b g h) ∙ sym (ap (λ (e : Entry). b ∷ e ∷ xs) (same_entry a b g h))
      ] refl
    ] refl

between : (x a b : Entry) (xs : List Entry) → is_before x a ≡ true → is_before x b ≡ false → put a (put b (x ∷ xs)) ≡ put b (put a (x ∷ xs))
between x a b xs h g =
    ap (put a) (put_first x b xs g) ∙ put_before b a (x ∷ xs) (later_before x a b h g) ∙ ap (λ ys. b ∷ ys) (put_before x a xs h)
    ∙ sym (ap (put b) (put_before x a xs h) ∙ put_first x b (put a xs) g)

pub puts_commute : (a b : Entry) (xs : List Entry) → put a (put b xs) ≡ put b (put a xs)
puts_commute a b [] = two a b []
puts_commute a b (x ∷ xs) =
    elim (is_before x a) as (λ p. is_before x a ≡ p → put a (put b (x ∷ xs)) ≡ put b (put a (x ∷ xs))) [
      | true ↦ λ h. elim (is_before x b) as (λ q. is_before x b ≡ q → put a (put b (x ∷ xs)) ≡ put b (put a (x ∷ xs))) [
        | true ↦ λ g.
            ap (put a) (put_before x b xs g) ∙ put_before x a (put b xs) h ∙ ap (λ ys. x ∷ ys) (puts_commute a b xs)
            ∙ sym (ap (put b) (put_before x a xs h) ∙ put_before x b (put a xs) g)
        | false ↦ λ g. between x a b xs h g
      ] refl
      | false ↦ λ h. elim (is_before x b) as (λ q. is_before x b ≡ q → put a (put b (x ∷ xs)) ≡ put b (put a (x ∷ xs))) [
        | true ↦ λ g. sym (between x b a xs g h)
        | false ↦ λ g.
            ap (put a) (put_first x b xs g) ∙ ap (λ ys. if is_before b a then b ∷ ys else a ∷ b ∷ x ∷ xs) (put_first x a xs h)
            ∙ two a b (x ∷ xs)
            ∙ sym (ap (put b) (put_first x a xs h) ∙ ap (λ ys. if is_before a b then a ∷ ys else b ∷ a ∷ x ∷ xs) (put_first x b xs g))
      ] refl
    ] refl

pub without_put : (e : Entry) (xs : List Entry) → without e (put e xs) ≡ xs
without_put e [] = rw (itself e) refl
without_put e (x ∷ xs) =
    elim (is_before x e) as (λ p. is_before x e ≡ p → without e (if p then x ∷ put e xs else e ∷ x ∷ xs) ≡ x ∷ xs) [
      | true ↦ λ h. rw (before_not_same x e h) (ap (λ ys. x ∷ ys) (without_put e xs))
      | false ↦ λ h. rw (itself e) refl
    ] refl
