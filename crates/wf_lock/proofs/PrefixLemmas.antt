-- Beginnings of one history.
use Rattle.std.proofs.Common.{◌≡◌, ◌≤◌, Bool, true, false, List, [], ◌∷◌, ◌++◌, length, sym, refl, ap, ◌∙◌, arith, append_assoc, append-nil, length-append, ltb-true, ltb-false}
use mathlib.Core.List.{IsPrefix}
use Rattle.std.specs.Prelude.{nat_lt, if◌then◌else◌}
use Rattle.wf_lock.specs.Rule.{longer}

module _ {E : Type 0} where
  pub prefix_snoc : (xs log : List E) (e : E) → IsPrefix xs log → IsPrefix xs (log ++ e ∷ [])
  prefix_snoc xs log e p = (p.0 ++ e ∷ [], sym (append_assoc xs p.0 (e ∷ [])) ∙ ap (λ z. z ++ e ∷ []) p.1)

  pub prefix_length : (xs ys : List E) → IsPrefix xs ys → length xs ≤ length ys
  prefix_length xs ys p = let e = ap length p.1 in omega (arith, length-append xs p.0)

  pub prefix_whole : (xs : List E) → IsPrefix xs xs
  prefix_whole xs = ([], append-nil xs)

  abbrev tail_of : List E → List E
  tail_of [] = []
  tail_of (x ∷ xs) = xs

  abbrev head_or : E → List E → E
  head_or d [] = d
  head_or d (x ∷ xs) = x

  -- of two beginnings of one list the shorter begins the longer
  pub comparable : (xs ys log : List E) → IsPrefix xs log → IsPrefix ys log → length xs ≤ length ys → IsPrefix xs ys
  comparable [] ys log p q l = (ys, refl)
  comparable (x ∷ xs) [] log p q l = absurd (omega arith)
  comparable (x ∷ xs) (y ∷ ys) [] p q l = absurd (let h = ap length p.1 in omega arith)
  comparable (x ∷ xs) (y ∷ ys) (z ∷ zs) p q l =
      let t = comparable xs ys zs (p.0, ap tail_of p.1) (q.0, ap tail_of q.1) (omega arith) in
      let same : x ≡ y = ap (head_or x) p.1 ∙ sym (ap (head_or y) q.1) in (t.0, λ i. same i ∷ t.1 i)

  longer_by : (xs ys log : List E) → IsPrefix xs log → IsPrefix ys log → (c : Bool) → nat_lt (length xs) (length ys) ≡ c
      → IsPrefix (if c then ys else xs) log × IsPrefix xs (if c then ys else xs) × IsPrefix ys (if c then ys else xs)
  longer_by xs ys log p q true c = (q, comparable xs ys log p q (let l = ltb-true (length xs) (length ys) c in omega arith), prefix_whole ys)
  longer_by xs ys log p q false c = (p, prefix_whole xs, comparable ys xs log q p (let l = ltb-false (length xs) (length ys) c in omega arith))

  -- the longer of two beginnings of one list
  pub longer_of : (xs ys log : List E) → IsPrefix xs log → IsPrefix ys log → IsPrefix (longer xs ys) log × IsPrefix xs (longer xs ys) × IsPrefix ys (longer xs ys)
  longer_of xs ys log p q = longer_by xs ys log p q (nat_lt (length xs) (length ys)) refl
