-- Answers stay right as the history grows.
use Rattle.std.proofs.Common.{◌≡◌, ℕ, zero, suc, ◌+◌, ◌≤◌, List, [], ◌∷◌, ◌++◌, length, take, map, sym, refl, ap, ◌∙◌, subst, arith, append_assoc, length-append}
use mathlib.Core.List.{IsPrefix}
use Rattle.wf_lock.specs.Passes.{LockState, PassState}
use Rattle.wf_lock.specs.Places.{ArePlaces, merged}
use Rattle.wf_counter.specs.declared.counter.Addition.{Addition}
use Rattle.wf_counter.specs.declared.counting.Counted.{Counted}
use Rattle.wf_counter.specs.Totals.{total_of, IsAnswer, AreAnswers, IsAdded, HasCounted}

take_front : {A : Type 0} (n : ℕ) (xs ys : List A) → n ≤ length xs → take n (xs ++ ys) ≡ take n xs
take_front zero xs ys l = refl
take_front (suc n) [] ys l = absurd (omega arith)
take_front (suc n) (x ∷ xs) ys l = ap (λ z. x ∷ z) (take_front n xs ys (omega arith))

take_whole : {A : Type 0} (n : ℕ) (xs : List A) → n ≡ length xs → take n xs ≡ xs
take_whole zero [] e = refl
take_whole zero (x ∷ xs) e = absurd (omega arith)
take_whole (suc n) [] e = absurd (omega arith)
take_whole (suc n) (x ∷ xs) e = ap (λ z. x ∷ z) (take_whole n xs (omega arith))

answer_grows : (start : ℕ) (log log' : List Addition) (a : Counted) → IsPrefix log log' → IsAnswer start log a → IsAnswer start log' a
answer_grows start log log' a p h = subst (λ z. IsAnswer start z a) p.1
    ((let l = h.0 in omega (arith, length-append log p.0)), h.1 ∙ ap (total_of start) (sym (take_front a.place log p.0 h.0)))

pub answers_grow : (start : ℕ) (log log' : List Addition) (answers : List Counted) → IsPrefix log log' → AreAnswers start log answers → AreAnswers start log' answers
answers_grow start log log' [] p h = tt
answers_grow start log log' (a ∷ answers) p h = (answer_grows start log log' a p h.0, answers_grow start log log' answers p h.1)

-- one more answer, to the last entry
pub answers_snoc : (start : ℕ) (log log' : List Addition) (answers : List Counted) (a : Counted) → IsPrefix log log' → a.place ≡ length log' → a.total ≡ total_of start log' → AreAnswers start log answers → AreAnswers start log' (answers ++ a ∷ [])
answers_snoc start log log' [] a p at total h = (((omega arith), total ∙ ap (total_of start) (sym (take_whole a.place log' at))), tt)
answers_snoc start log log' (b ∷ answers) a p at total h = (answer_grows start log log' b p h.0, answers_snoc start log log' answers a p at total h.1)

map_snoc : {A : Type 0} (f : A → ℕ) (xs : List A) (x : A) → map f (xs ++ x ∷ []) ≡ map f xs ++ f x ∷ []
map_snoc f [] x = refl
map_snoc f (y ∷ xs) x = ap (λ z. f y ∷ z) (map_snoc f xs x)

-- one more addition
pub counted_again : (lock : LockState ℕ) (n : ℕ) (first old new : PassState Addition ℕ) (answers : List Counted) (a : Counted) (e : Addition)
    → HasCounted lock n first answers old → IsAdded old e a.place new → a.total ≡ total_of lock.base new.seen → HasCounted lock (n + 1) first (answers ++ a ∷ []) new
counted_again lock n first old new answers a e h added total =
    let between = added.0 in let same = added.1 in let seen : new.seen ≡ (old.seen ++ between) ++ e ∷ [] = ap (λ s. s.seen) same in
    let later : IsPrefix old.seen new.seen = (between ++ e ∷ [], sym (append_assoc old.seen between (e ∷ [])) ∙ sym seen) in
    let start : IsPrefix first.seen new.seen = (h.2.0 ++ later.0, sym (append_assoc first.seen h.2.0 later.0) ∙ (ap (λ z. z ++ later.0) h.2.1 ∙ later.1)) in (
      (ap (λ s. s.table) same ∙ h.0.0, ap (λ s. s.base) same ∙ h.0.1),
      ap (λ s. s.turn) same ∙ h.1,
      start,
      answers_snoc lock.base old.seen new.seen answers a later added.2 total h.3,
      (let l = h.4 in omega (arith, length-append answers (a ∷ []))),
      ap (λ s. s.own) same ∙ (ap (λ z. z ++ a.place ∷ []) h.5 ∙ (append_assoc first.own (map (λ b. b.place) answers) (a.place ∷ []) ∙ ap (λ z. first.own ++ z) (sym (map_snoc (λ b. b.place) answers a)))),
    )

-- a new pass has counted: its own places are those of its answers
pub counted_new : (lock : LockState ℕ) (n : ℕ) (first pass : PassState Addition ℕ) (answers : List Counted) → HasCounted lock n first answers pass → first.own ≡ [] → pass.own ≡ map (λ a. a.place) answers
counted_new lock n first pass answers h new = h.5 ∙ ap (λ z. z ++ map (λ a. a.place) answers) new

pub places_of_both : (n : ℕ) (own left right xs ys : List ℕ) → own ≡ merged left right → left ≡ xs → right ≡ ys → ArePlaces n own → ArePlaces n (merged xs ys)
places_of_both n own left right xs ys e f s h = subst (ArePlaces n) (e ∙ (λ i. merged (f i) (s i))) h

length_places : (answers : List Counted) → length (map (λ a. a.place) answers) ≡ length answers
length_places [] = refl
length_places (a ∷ answers) = ap suc (length_places answers)

pub both_counted : (times : ℕ) (left right : List ℕ) (first second : List Counted) → left ≡ map (λ a. a.place) first → right ≡ map (λ a. a.place) second → length first ≡ times → length second ≡ times → length left + length right ≡ times + times
both_counted times left right first second e f l m = let a = ap length e in let b = ap length f in let x = length_places first in let y = length_places second in omega arith
