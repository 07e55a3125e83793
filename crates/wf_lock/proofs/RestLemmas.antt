-- Passes between calls.
use Rattle.std.proofs.Common.{◌≡◌, ℕ, ◌+◌, ◌^◌, ◌<◌, ◌≤◌, Bool, List, [], ◌∷◌, ◌++◌, length, sym, refl, ap, ◌∙◌, subst, ⊎_elim, arith, length-append}
use mathlib.Core.List.{IsPrefix}
use Rattle.std.specs.Prelude.{Option, Some, None}
use Rattle.wf_lock.specs.declared.view.Held.{Held}
use Rattle.wf_lock.specs.declared.view.View.{View}
use Rattle.wf_lock.specs.declared.view.Stage.{Stage}
use Rattle.wf_lock.specs.declared.view.Stage.TheVariants.{Idle, Waits, Serves}
use Rattle.wf_lock.specs.Places.{RisesFrom, ArePlaces, merged}
use Rattle.wf_lock.specs.Rule.{M, HasTurn, with_entry}
use Rattle.wf_lock.specs.Passes.{RestsIn, IsAtRest, turn_of}
use Rattle.wf_lock.proofs.PlaceLemmas.{has_snoc, rises_snoc, merged_within}
use Rattle.wf_lock.proofs.PrefixLemmas.{prefix_length}

abbrev is_some : {A : Type 0} → Option A → Type 0
is_some (Some x) = Unit {0}
is_some None = ⊥

some_none : {A : Type 0} (a : A) → Some a ≡ None → ⊥
some_none a e = subst is_some e tt

abbrev the : ℕ → Option ℕ → ℕ
the d (Some x) = x
the d None = d

pub places_grow : (n m : ℕ) (xs : List ℕ) → n ≤ m → ArePlaces n xs → ArePlaces m xs
places_grow n m xs l r = (r.0, λ p h. let k = r.1 p h in omega arith)

-- the next place behind all places
pub places_snoc : (n : ℕ) (xs : List ℕ) → ArePlaces n xs → ArePlaces (n + 1) (xs ++ (n + 1) ∷ [])
places_snoc n xs r = (
  rises_snoc 0 (n + 1) xs r.0 (omega arith) (λ q h. let k = r.1 q h in omega arith),
  λ p h. ⊎_elim (λ old. let k = r.1 p old in omega arith) (λ e. omega arith) (has_snoc p (n + 1) xs h),
)

pub places_merged : (n k m : ℕ) (xs ys : List ℕ) → ArePlaces n xs → ArePlaces k ys → n ≤ m → k ≤ m → RisesFrom 0 (merged xs ys) → ArePlaces m (merged xs ys)
places_merged n k m xs ys left right l j rises = (rises, merged_within m xs ys (λ p h. let a = left.1 p h in omega arith) (λ p h. let a = right.1 p h in omega arith))

module _ {T E : Type 0} where
  pub rests_free : (slots : List (ℕ × Option (Held T E))) (n : ℕ) (st : Stage) → RestsIn slots n st → turn_of st ≡ None → st ≡ Idle
  rests_free slots n Idle r e = refl
  rests_free slots n (Waits t) r e = absurd r
  rests_free slots n (Serves t) r e = absurd (some_none t e)

  pub rests_serving : (slots : List (ℕ × Option (Held T E))) (n a : ℕ) (st : Stage) → RestsIn slots n st → turn_of st ≡ Some a → n ≡ a
  rests_serving slots n a Idle r e = absurd (some_none a (sym e))
  rests_serving slots n a (Waits t) r e = absurd r
  rests_serving slots n a (Serves t) r e = r.1 ∙ ap (the t) e

module _ {T E B : Type 0} where
  pub rest_idle : (m : M T E B) → m.1 ≡ [] → m.0.stage ≡ Idle → m.0.told ≡ [] → ArePlaces (length m.0.seen) m.0.own → IsAtRest m
  rest_idle m none_held idle untold own = (subst (RestsIn m.1 (length m.0.seen)) (sym idle) none_held, untold, own)

  -- the value is out
  pub rest_out : (old drawn waited out : M T E B) (a : ℕ) (base : T → B) (stands : T → List E → Type 0) (marked : E → Bool) → a < 2 ^ 62
      → drawn.0 ≡ record old.0 { stage = Waits a } → HasTurn base stands marked a drawn waited → out.0 ≡ waited.0 → out.1 ≡ (0, None) ∷ []
      → IsAtRest old → IsAtRest out
  rest_out old drawn waited out a base stands marked low drew t same emptied rest =
      let log = t.3.0 in
      let e : out.0 ≡ record old.0 { stage = Serves a; seen = log } = same ∙ (t.3.1 ∙ ap (λ (v : View E B). record v { stage = Serves a; seen = log }) drew) in
      let begins : IsPrefix old.0.seen log = subst (λ (v : View E B). IsPrefix v.seen log) drew t.3.3 in
      subst (λ (v : View E B). RestsIn out.1 (length v.seen) v.stage × (v.told ≡ []) × ArePlaces (length v.seen) v.own) (sym e)
      ((emptied, t.3.2, low), rest.1, places_grow (length old.0.seen) (length log) old.0.own (prefix_length old.0.seen log begins) rest.2)

  -- the value is back
  pub rest_back : (old new : M T E B) (a : ℕ) (x : E) → turn_of old.0.stage ≡ Some a → new.1 ≡ [] → new.0 ≡ with_entry old.0 a x → IsAtRest old → IsAtRest new
  rest_back old new a x serves none_held e rest =
      let n = rests_serving old.1 (length old.0.seen) a old.0.stage rest.0 serves in
      let long : length (old.0.seen ++ x ∷ []) ≡ a + 1 = length-append old.0.seen (x ∷ []) ∙ ap (λ (z : ℕ). z + 1) n in
      let own : ArePlaces (a + 1) (old.0.own ++ (a + 1) ∷ []) = places_snoc a old.0.own (subst (λ (z : ℕ). ArePlaces z old.0.own) n rest.2) in
      subst (λ (v : View E B). RestsIn new.1 (length v.seen) v.stage × (v.told ≡ []) × ArePlaces (length v.seen) v.own) (sym e)
      (none_held, rest.1, subst (λ (z : ℕ). ArePlaces z (old.0.own ++ (a + 1) ∷ [])) (sym long) own)
