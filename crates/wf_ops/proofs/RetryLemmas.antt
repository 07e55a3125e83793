-- What a retry makes of the attempt at a place.
use Rattle.std.proofs.Common.{◌≡◌, ◌≢◌, ◌&&◌, ℕ, Bool, true, false, if◌then◌else◌, List, [], ◌∷◌, ◌++◌, length, slice_get, Some, refl, sym, ap, ◌∙◌, subst}
use Rattle.wf_machine.specs.State.{Attempt, Flow, RisingFrom}
use Rattle.wf_machine.specs.Operators.{is_last, is_redone, retried, superseded, superseded_where}
use Rattle.wf_flow.specs.Last.{greatest}
use Rattle.wf_ops.specs.Laws.{is_to_redo}
use Rattle.wf_ops.proofs.LastLemmas.{last_is_greatest}

-- the attempt behind those before it
where_at : (test : Attempt → List Attempt → Bool) (before : List Attempt) (a : Attempt) (rest : List Attempt)
    → slice_get (superseded_where test (before ++ a ∷ rest)) (length before) ≡ Some (if test a rest then superseded a else a)
where_at test [] a rest = refl
where_at test (x ∷ before) a rest = where_at test before a rest

retried_at : (e : ℕ) (f : Flow) (before : List Attempt) (a : Attempt) (rest : List Attempt) → f.attempts ≡ before ++ a ∷ rest → (b : Bool) → is_redone f.def a rest ≡ b
    → slice_get (retried e f).attempts (length before) ≡ Some (if b then superseded a else a)
retried_at e f before a rest is b told =
    subst (λ xs. slice_get (superseded_where (is_redone f.def) xs) (length before) ≡ Some (if b then superseded a else a)) (sym is)
    (where_at (is_redone f.def) before a rest ∙ ap (λ c. Some (if c then superseded a else a)) told)

both : (b c : Bool) → b ≡ true → c ≡ true → (b && c) ≡ true
both true true h k = refl
both true false h k = cc
both false c h k = cc

not_second : (b c : Bool) → c ≡ false → (b && c) ≡ false
not_second true c k = k
not_second false c k = refl

not_true : (b : Bool) → (b ≡ true → ⊥) → b ≡ false
not_true true never = absurd (never refl)
not_true false never = refl

not_first : (b c : Bool) → b ≡ false → (b && c) ≡ false
not_first true c h = cc
not_first false c h = refl

pub failed_taken : (e : ℕ) (f : Flow) (before : List Attempt) (a : Attempt) (rest : List Attempt) → f.attempts ≡ before ++ a ∷ rest
    → RisingFrom 1 f.attempts → greatest a.node a.iteration f.attempts ≡ Some a → is_to_redo f.def a ≡ true
    → slice_get (retried e f).attempts (length before) ≡ Some (superseded a)
failed_taken e f before a rest is rising last redo =
    let found : greatest a.node a.iteration (before ++ a ∷ rest) ≡ Some a = subst (λ xs. greatest a.node a.iteration xs ≡ Some a) is last in
    retried_at e f before a rest is true
    (both (is_last a rest) (is_to_redo f.def a) ((last_is_greatest 1 before a rest (subst (RisingFrom 1) is rising)).1 found) redo)

pub successful_kept : (e : ℕ) (f : Flow) (before : List Attempt) (a : Attempt) (rest : List Attempt) → f.attempts ≡ before ++ a ∷ rest
    → is_to_redo f.def a ≡ false → slice_get (retried e f).attempts (length before) ≡ Some a
successful_kept e f before a rest is redo = retried_at e f before a rest is false (not_second (is_last a rest) (is_to_redo f.def a) redo)

pub earlier_kept : (e : ℕ) (f : Flow) (before : List Attempt) (a : Attempt) (rest : List Attempt) → f.attempts ≡ before ++ a ∷ rest
    → RisingFrom 1 f.attempts → greatest a.node a.iteration f.attempts ≢ Some a
    → slice_get (retried e f).attempts (length before) ≡ Some a
earlier_kept e f before a rest is rising other =
    let same = last_is_greatest 1 before a rest (subst (RisingFrom 1) is rising) in
    retried_at e f before a rest is false
    (not_first (is_last a rest) (is_to_redo f.def a)
    (not_true (is_last a rest) (λ last. other (subst (λ xs. greatest a.node a.iteration xs ≡ Some a) (sym is) (same.0 last)))))
