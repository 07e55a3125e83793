-- The first place in a list at which something stands, as a loop from the front finds it.
use Rattle.std.proofs.Common.{◌≡◌, ℕ, zero, suc, ◌+◌, ◌<◌, ◌≤◌, Bool, true, false, if◌then◌else◌, List, [], ◌∷◌, map, length, get_or, slice_get, drop, Option, None, Some, refl, sym, ap, arith}
use Rattle.std.specs.Prelude.{option_map}
use Rattle.wf_machine.specs.Sight.{Seen, seen}
use Rattle.wf_machine.specs.State.{Attempt}
use Rattle.wf_machine.specs.declared.timed.Cause.{Cause}
use Rattle.wf_rules.specs.Sight.{due}
use Rattle.wf_rules.specs.Rules.{first_due, first_lost, first_some, is_lost, shift}
use Rattle.wf_retry.specs.Reading.{cause_due, first_cause}

-- what was found in the rest from a place on, counted from the front
abbrev pub from_place : {T : Type 0} → ℕ → Option (ℕ × T) → Option (ℕ × T)
from_place i o = option_map (λ found. (i + found.0, found.1)) o

pub from_front : {T : Type 0} (o : Option (ℕ × T)) → from_place 0 o ≡ o
from_front None = refl
from_front (Some found) = ap (λ n. Some (n, found.1)) (omega arith)

shifted : {T : Type 0} (i : ℕ) (o : Option (ℕ × T)) → from_place i (option_map shift o) ≡ from_place (i + 1) o
shifted i None = refl
shifted i (Some found) = ap (λ n. Some (n, found.1)) (omega arith)

pub dropped : (xs : List Attempt) (i : ℕ) (a : Attempt) → i < length xs → a ≡ get_or xs i a → drop i xs ≡ a ∷ drop (i + 1) xs
dropped [] i a within is = absurd (omega arith)
dropped (x ∷ xs) zero a within is = ap (λ y. y ∷ xs) (sym is)
dropped (x ∷ xs) (suc i) a within is = let next : suc i + 1 ≡ suc (i + 1) = omega arith in rw next (dropped xs i a (omega arith) is)

pub dropped_all : (xs : List Attempt) (i : ℕ) → length xs ≤ i → drop i xs ≡ []
dropped_all [] zero beyond = refl
dropped_all [] (suc i) beyond = refl
dropped_all (x ∷ xs) zero beyond = absurd (omega arith)
dropped_all (x ∷ xs) (suc i) beyond = dropped_all xs i (omega arith)

pub at_index : (xs : List Attempt) (i : ℕ) (a : Attempt) → i < length xs → a ≡ get_or xs i a → slice_get xs i ≡ Some a
at_index [] i a within is = absurd (omega arith)
at_index (x ∷ xs) zero a within is = ap Some (sym is)
at_index (x ∷ xs) (suc i) a within is = at_index xs i a (omega arith) is

-- ---- the first place with something

module _ {T : Type 0} (what : Attempt → Option T) where
  -- what the loop has still to find, from a place on
  abbrev pub left : List Attempt → ℕ → Option (ℕ × T)
  left xs i = from_place i (first_some (map what (drop i xs)))

  head_none : (i : ℕ) (o : Option T) (rest : List (Option T)) → o ≡ None → from_place i (first_some (o ∷ rest)) ≡ from_place (i + 1) (first_some rest)
  head_none i None rest is = shifted i (first_some rest)
  head_none i (Some t) rest is = cc

  head_some : (i : ℕ) (o : Option T) (rest : List (Option T)) (t : T) → o ≡ Some t → from_place i (first_some (o ∷ rest)) ≡ Some (i, t)
  head_some i None rest t is = cc
  head_some i (Some u) rest t is = let same : u ≡ t = cc in rw same (ap (λ n. Some (n, t)) (omega arith))

  pub left_next : (xs : List Attempt) (i : ℕ) (a : Attempt) → i < length xs → a ≡ get_or xs i a → what a ≡ None → left xs i ≡ left xs (i + 1)
  left_next xs i a within is none = rw (dropped xs i a within is) (head_none i (what a) (map what (drop (i + 1) xs)) none)

  pub left_here : (xs : List Attempt) (i : ℕ) (a : Attempt) (t : T) → i < length xs → a ≡ get_or xs i a → what a ≡ Some t → left xs i ≡ Some (i, t)
  left_here xs i a t within is some = rw (dropped xs i a within is) (head_some i (what a) (map what (drop (i + 1) xs)) t some)

  pub left_none : (xs : List Attempt) (i : ℕ) → length xs ≤ i → left xs i ≡ None
  left_none xs i beyond = rw (dropped_all xs i beyond) refl

  pub left_all : (xs : List Attempt) → left xs 0 ≡ first_some (map what xs)
  left_all xs = from_front (first_some (map what xs))

-- ---- the first that is due

due_head : (causes : List Cause) (xs : List (List Cause)) (ys : List (Option Cause)) → first_due xs ≡ first_some ys → first_due (causes ∷ xs) ≡ first_some (first_cause causes ∷ ys)
due_head [] xs ys same = ap (option_map shift) same
due_head (cause ∷ more) xs ys same = refl

pub due_some : (e : ℕ) (xs : List Attempt) → first_due (map (due e) xs) ≡ first_some (map (cause_due e) xs)
due_some e [] = refl
due_some e (x ∷ xs) = due_head (due e x) (map (due e) xs) (map (cause_due e) xs) (due_some e xs)

-- ---- the first that is lost

abbrev pub lost_left : List Attempt → ℕ → Option (ℕ × Seen)
lost_left xs i = from_place i (first_lost (map seen (drop i xs)))

lost_head : (i : ℕ) (t : Bool) (a : Seen) (rest : Option (ℕ × Seen)) → t ≡ false → from_place i (if t then Some (zero, a) else option_map shift rest) ≡ from_place (i + 1) rest
lost_head i false a rest is = shifted i rest
lost_head i true a rest is = cc

lost_first : (i : ℕ) (t : Bool) (a : Seen) (rest : Option (ℕ × Seen)) → t ≡ true → from_place i (if t then Some (zero, a) else option_map shift rest) ≡ Some (i, a)
lost_first i false a rest is = cc
lost_first i true a rest is = ap (λ n. Some (n, a)) (omega arith)

pub lost_next : (xs : List Attempt) (i : ℕ) (a : Attempt) → i < length xs → a ≡ get_or xs i a → is_lost (seen a) (map seen (drop (i + 1) xs)) ≡ false → lost_left xs i ≡ lost_left xs (i + 1)
lost_next xs i a within is not_lost =
    rw (dropped xs i a within is)
    (lost_head i (is_lost (seen a) (map seen (drop (i + 1) xs))) (seen a) (first_lost (map seen (drop (i + 1) xs))) not_lost)

pub lost_here : (xs : List Attempt) (i : ℕ) (a : Attempt) → i < length xs → a ≡ get_or xs i a → is_lost (seen a) (map seen (drop (i + 1) xs)) ≡ true → lost_left xs i ≡ Some (i, seen a)
lost_here xs i a within is lost =
    rw (dropped xs i a within is)
    (lost_first i (is_lost (seen a) (map seen (drop (i + 1) xs))) (seen a) (first_lost (map seen (drop (i + 1) xs))) lost)

pub lost_none : (xs : List Attempt) (i : ℕ) → length xs ≤ i → lost_left xs i ≡ None
lost_none xs i beyond = rw (dropped_all xs i beyond) refl

pub lost_all : (xs : List Attempt) → lost_left xs 0 ≡ first_lost (map seen xs)
lost_all xs = from_front (first_lost (map seen xs))
