-- Lists of places: what insertion and merging keep.
use Rattle.std.proofs.Common.{◌≡◌, ℕ, suc, ◌+◌, ◌<◌, ◌≤◌, ◌⊎◌, inl, inr, Bool, true, false, List, [], ◌∷◌, ◌++◌, length, refl, sym, ap, subst, ⊎_elim, arith, ltb-true, ltb-false}
use Rattle.std.specs.Prelude.{nat_lt, if◌then◌else◌}
use Rattle.wf_lock.specs.Places.{Has, RisesFrom, AreApart, insert_place, merged}

pub has_snoc : (p q : ℕ) (xs : List ℕ) → Has p (xs ++ q ∷ []) → Has p xs ⊎ (q ≡ p)
has_snoc p q [] h = ⊎_elim (λ e. inr e) (λ n. absurd n) h
has_snoc p q (x ∷ xs) h = ⊎_elim (λ e. inl (inl e)) (λ t. ⊎_elim (λ u. inl (inr u)) (λ e. inr e) (has_snoc p q xs t)) h

pub has_left : (p : ℕ) (xs ys : List ℕ) → Has p xs → Has p (xs ++ ys)
has_left p [] ys h = absurd h
has_left p (x ∷ xs) ys h = ⊎_elim (λ e. inl e) (λ t. inr (has_left p xs ys t)) h

pub has_right : (p : ℕ) (xs ys : List ℕ) → Has p ys → Has p (xs ++ ys)
has_right p [] ys h = h
has_right p (x ∷ xs) ys h = inr (has_right p xs ys h)

pub rises_above : (low p : ℕ) (xs : List ℕ) → RisesFrom low xs → Has p xs → low < p
rises_above low p [] r h = absurd h
rises_above low p (x ∷ xs) r h = ⊎_elim (λ e. let l = r.0 in omega arith) (λ t. let l = r.0 in let m = rises_above x p xs r.1 t in omega arith) h

-- a greater place behind the last
pub rises_snoc : (low p : ℕ) (xs : List ℕ) → RisesFrom low xs → low < p → ((q : ℕ) → Has q xs → q < p) → RisesFrom low (xs ++ p ∷ [])
rises_snoc low p [] r l above = (l, tt)
rises_snoc low p (x ∷ xs) r l above = (r.0, rises_snoc x p xs r.1 (above x (inl refl)) (λ q h. above q (inr h)))

has_if : (c : Bool) (q p x : ℕ) (xs : List ℕ) → (Has q (insert_place p xs) → (p ≡ q) ⊎ Has q xs) → Has q (if c then p ∷ x ∷ xs else x ∷ insert_place p xs) → (p ≡ q) ⊎ Has q (x ∷ xs)
has_if true q p x xs ih h = h
has_if false q p x xs ih h = ⊎_elim (λ e. inr (inl e)) (λ t. ⊎_elim (λ e. inl e) (λ u. inr (inr u)) (ih t)) h

has_insert : (q p : ℕ) (xs : List ℕ) → Has q (insert_place p xs) → (p ≡ q) ⊎ Has q xs
has_insert q p [] h = h
has_insert q p (x ∷ xs) h = has_if (nat_lt p x) q p x xs (has_insert q p xs) h

if_here : (c : Bool) (p x : ℕ) (xs : List ℕ) → Has p (insert_place p xs) → Has p (if c then p ∷ x ∷ xs else x ∷ insert_place p xs)
if_here true p x xs ih = inl refl
if_here false p x xs ih = inr ih

insert_here : (p : ℕ) (xs : List ℕ) → Has p (insert_place p xs)
insert_here p [] = inl refl
insert_here p (x ∷ xs) = if_here (nat_lt p x) p x xs (insert_here p xs)

if_keeps : (c : Bool) (q p x : ℕ) (xs : List ℕ) → (Has q xs → Has q (insert_place p xs)) → Has q (x ∷ xs) → Has q (if c then p ∷ x ∷ xs else x ∷ insert_place p xs)
if_keeps true q p x xs ih h = inr h
if_keeps false q p x xs ih h = ⊎_elim (λ e. inl e) (λ t. inr (ih t)) h

insert_keeps : (q p : ℕ) (xs : List ℕ) → Has q xs → Has q (insert_place p xs)
insert_keeps q p [] h = absurd h
insert_keeps q p (x ∷ xs) h = if_keeps (nat_lt p x) q p x xs (insert_keeps q p xs) h

pub merged_has : (q : ℕ) (xs ys : List ℕ) → Has q (merged xs ys) → Has q xs ⊎ Has q ys
merged_has q xs [] h = inl h
merged_has q xs (y ∷ ys) h = ⊎_elim (λ e. inr (inl e)) (λ t. ⊎_elim (λ u. inl u) (λ u. inr (inr u)) (merged_has q xs ys t)) (has_insert q y (merged xs ys) h)

pub merged_left : (q : ℕ) (xs ys : List ℕ) → Has q xs → Has q (merged xs ys)
merged_left q xs [] h = h
merged_left q xs (y ∷ ys) h = insert_keeps q y (merged xs ys) (merged_left q xs ys h)

pub merged_right : (q : ℕ) (xs ys : List ℕ) → Has q ys → Has q (merged xs ys)
merged_right q xs [] h = absurd h
merged_right q xs (y ∷ ys) h = ⊎_elim (λ e. subst (λ z. Has z (insert_place y (merged xs ys))) e (insert_here y (merged xs ys))) (λ t. insert_keeps q y (merged xs ys) (merged_right q xs ys t)) h

-- what holds of the places of both holds of the merged
pub merged_within : (n : ℕ) (xs ys : List ℕ) → ((p : ℕ) → Has p xs → p ≤ n) → ((p : ℕ) → Has p ys → p ≤ n) → (p : ℕ) → Has p (merged xs ys) → p ≤ n
merged_within n xs ys left right p h = ⊎_elim (left p) (right p) (merged_has p xs ys h)

rises_if : (c : Bool) (low p x : ℕ) (xs : List ℕ) → nat_lt p x ≡ c → low < p → RisesFrom low (x ∷ xs) → (p ≡ x → ⊥) → (x < p → RisesFrom x (insert_place p xs)) → RisesFrom low (if c then p ∷ x ∷ xs else x ∷ insert_place p xs)
rises_if true low p x xs c l r ne ih = (l, (ltb-true p x c, r.1))
rises_if false low p x xs c l r ne ih = (r.0, ih (let g = ltb-false p x c in let n : (p ≡ x → ⊥) = ne in omega arith))

-- a new place keeps the list rising
rises_insert : (low p : ℕ) (xs : List ℕ) → low < p → RisesFrom low xs → (Has p xs → ⊥) → RisesFrom low (insert_place p xs)
rises_insert low p [] l r new = (l, tt)
rises_insert low p (x ∷ xs) l r new = rises_if (nat_lt p x) low p x xs refl l r (λ e. new (inl (sym e))) (λ over. rises_insert x p xs over r.1 (λ t. new (inr t)))

merged_from : (low : ℕ) (xs ys : List ℕ) → RisesFrom 0 xs → RisesFrom low ys → AreApart xs ys → RisesFrom 0 (merged xs ys)
merged_from low xs [] r q apart = r
merged_from low xs (y ∷ ys) r q apart = rises_insert 0 y (merged xs ys) (let l = q.0 in omega arith) (merged_from y xs ys r q.1 (λ p h k. apart p h (inr k)))
    (λ h. ⊎_elim (λ t. apart y t (inl refl)) (λ t. let l = rises_above y y ys q.1 t in absurd (omega arith)) (merged_has y xs ys h))

-- two rising lists that share no place rise together
pub merged_rises : (xs ys : List ℕ) → RisesFrom 0 xs → RisesFrom 0 ys → AreApart xs ys → RisesFrom 0 (merged xs ys)
merged_rises xs ys = merged_from 0 xs ys

rest_if : (c : Bool) (low p x : ℕ) (xs : List ℕ) → (RisesFrom x (insert_place p xs) → RisesFrom x xs) → RisesFrom low (if c then p ∷ x ∷ xs else x ∷ insert_place p xs) → RisesFrom low (x ∷ xs)
rest_if true low p x xs ih r = ((let l = r.0 in let m = r.1.0 in omega arith), r.1.1)
rest_if false low p x xs ih r = (r.0, ih r.1)

insert_rest : (low p : ℕ) (xs : List ℕ) → RisesFrom low (insert_place p xs) → RisesFrom low xs
insert_rest low p [] r = tt
insert_rest low p (x ∷ xs) r = rest_if (nat_lt p x) low p x xs (insert_rest x p xs) r

new_if : (c : Bool) (low p x : ℕ) (xs : List ℕ) → (RisesFrom x (insert_place p xs) → Has p xs → ⊥) → RisesFrom low (if c then p ∷ x ∷ xs else x ∷ insert_place p xs) → Has p (x ∷ xs) → ⊥
new_if true low p x xs ih r h = let l = rises_above p p (x ∷ xs) r.1 h in absurd (omega arith)
new_if false low p x xs ih r h = ⊎_elim (λ e. let l = rises_above x p (insert_place p xs) r.1 (insert_here p xs) in absurd (omega arith)) (λ t. ih r.1 t) h

insert_new : (low p : ℕ) (xs : List ℕ) → RisesFrom low (insert_place p xs) → Has p xs → ⊥
insert_new low p [] r h = absurd h
insert_new low p (x ∷ xs) r h = new_if (nat_lt p x) low p x xs (insert_new x p xs) r h

-- lists that rise together share no place
pub merged_apart : (xs ys : List ℕ) → RisesFrom 0 (merged xs ys) → AreApart xs ys
merged_apart xs [] r p h k = absurd k
merged_apart xs (y ∷ ys) r p h k = ⊎_elim (λ e. insert_new 0 y (merged xs ys) r (merged_left y xs ys (subst (λ z. Has z xs) (sym e) h))) (λ t. merged_apart xs ys (insert_rest 0 y (merged xs ys) r) p h t) k

length_if : (c : Bool) (p x : ℕ) (xs : List ℕ) → length (insert_place p xs) ≡ suc (length xs) → length (if c then p ∷ x ∷ xs else x ∷ insert_place p xs) ≡ suc (length (x ∷ xs))
length_if true p x xs ih = refl
length_if false p x xs ih = ap suc ih

length_insert : (p : ℕ) (xs : List ℕ) → length (insert_place p xs) ≡ suc (length xs)
length_insert p [] = refl
length_insert p (x ∷ xs) = length_if (nat_lt p x) p x xs (length_insert p xs)

pub length_merged : (xs ys : List ℕ) → length (merged xs ys) ≡ length xs + length ys
length_merged xs [] = omega arith
length_merged xs (y ∷ ys) = let e = length_insert y (merged xs ys) in let f = length_merged xs ys in omega arith
