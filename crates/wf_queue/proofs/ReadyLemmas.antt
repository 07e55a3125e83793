-- The first number that is ready, by the first entry of a rising list.
use Rattle.std.proofs.Common.{◌≡◌, ℕ, ◌<◌, ◌≤◌, List, [], ◌∷◌, None, Some, slice_get, refl, ap}
use Rattle.wf_sorted.specs.declared.entry.Entry.{Entry}
use Rattle.wf_sorted.specs.Order.{Rising}
use Rattle.wf_sorted.proofs.LeastLemmas.{first_passed, nothing_passed}
use Rattle.wf_queue.specs.Waiting.{first_ready}

pub ready_none : (moment : ℕ) (xs : List Entry) → slice_get xs 0 ≡ None → first_ready moment xs ≡ None
ready_none moment [] none = refl
ready_none moment (x ∷ xs) none = absurd cc

pub ready_first : (moment : ℕ) (e : Entry) (xs : List Entry) → slice_get xs 0 ≡ Some e → Rising xs → e.moment ≤ moment → first_ready moment xs ≡ Some e.number
ready_first moment e [] some rising due = absurd cc
ready_first moment e (x ∷ xs) some rising due =
    let same : x ≡ e = cc in
    let has : x.moment ≤ moment = rw same due in
    rw (first_passed moment x xs rising has) (ap (λ (y : Entry). Some y.number) same)

pub ready_later : (moment : ℕ) (e : Entry) (xs : List Entry) → slice_get xs 0 ≡ Some e → Rising xs → moment < e.moment → first_ready moment xs ≡ None
ready_later moment e [] some rising later = absurd cc
ready_later moment e (x ∷ xs) some rising later =
    let same : x ≡ e = cc in
    let has_not : moment < x.moment = rw same later in
    rw (nothing_passed moment x xs rising has_not) refl
