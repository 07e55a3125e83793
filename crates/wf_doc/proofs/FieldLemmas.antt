-- The order of keys is kept.
use Rattle.std.proofs.Common.{◌≡◌, ℕ, List, [], ◌∷◌, ◌∙◌, refl, sym, ap, subst, ◌<◌, ◌+◌, ◌++◌, length, get_or, set, take, drop, add-one}
use Rattle.std.proofs.lemmas.List.{drop_more, set_split, take-append-drop, map-append}
use Rattle.std.specs.Ordering.{nat_cmp, match_ordering, ordering_reverse}
use Rattle.std.specs.declared.cmp.Ordering.{Ordering}
use Rattle.std.specs.declared.cmp.Ordering.TheVariants.{Less, Equal, Greater}
use Rattle.std.specs.Cmp.Lexicographic.{slice_cmp}
use Rattle.std.specs.List.{AllByRecursion}
use Rattle.std.specs.List.Sorted.{IsStrictlySortedBy}
use Rattle.std.proofs.lemmas.Cmp.{nat_list_cmp_total}
use Rattle.wf_doc.specs.declared.fields.Entry.{Entry}
use Rattle.wf_doc.specs.Fields.{keys, entry, put, IsOrdered}

All-map : {K : Type 0} (P Q : K → Type 0) → ((y : K) → P y → Q y) → (ys : List K) → AllByRecursion P ys → AllByRecursion Q ys
All-map P Q h [] a = tt
All-map P Q h (y ∷ ys) a = (h y a.0, All-map P Q h ys a.1)

module _ {T : Type 0} (k : List ℕ) (v : T) where
  all_put_at : (P : List ℕ → Type 0) (e : Entry T) (es : List (Entry T)) (o : Ordering) → P k → P e.key → AllByRecursion P (keys es)
      → AllByRecursion P (keys (put k v es)) → AllByRecursion P (keys (match_ordering o (entry k v ∷ e ∷ es) (entry k v ∷ es) (e ∷ put k v es)))
  all_put_at P e es Less here first rest more = (here, (first, rest))
  all_put_at P e es Equal here first rest more = (here, rest)
  all_put_at P e es Greater here first rest more = (first, more)

  all_put : (P : List ℕ → Type 0) (es : List (Entry T)) → P k → AllByRecursion P (keys es) → AllByRecursion P (keys (put k v es))
  all_put P [] here all = (here, tt)
  all_put P (e ∷ es) here all = all_put_at P e es (slice_cmp nat_cmp k e.key) here all.0 all.1 (all_put P es here all.1)

  put_ordered_at : (e : Entry T) (es : List (Entry T)) (o : Ordering) → slice_cmp nat_cmp k e.key ≡ o → IsOrdered (e ∷ es) → IsOrdered (put k v es)
      → IsOrdered (match_ordering o (entry k v ∷ e ∷ es) (entry k v ∷ es) (e ∷ put k v es))
  unfolding IsStrictlySortedBy
  put_ordered_at e es Less is a more = ((is, All-map _ _ (λ y p. nat_list_cmp_total.trans k e.key y is p) (keys es) a.0), a)
  put_ordered_at e es Equal is a more = (All-map _ _ (λ y p. nat_list_cmp_total.congr k e.key y is ∙ p) (keys es) a.0, a.1)
  put_ordered_at e es Greater is a more =
      (all_put (λ y. slice_cmp nat_cmp e.key y ≡ Less) es (nat_list_cmp_total.antisymm e.key k ∙ ap ordering_reverse is) a.0, more)

  pub put_ordered : (es : List (Entry T)) → IsOrdered es → IsOrdered (put k v es)
  unfolding IsStrictlySortedBy
  put_ordered [] a = (tt, tt)
  put_ordered (e ∷ es) a = put_ordered_at e es (slice_cmp nat_cmp k e.key) refl a (put_ordered es a.1)

pub none_ordered : (T : Type 0) (es : List (Entry T)) → es ≡ [] → IsOrdered es
unfolding IsStrictlySortedBy
none_ordered T es e = subst (IsOrdered {T = T}) (sym e) tt

-- what has the entry is in order
pub made_ordered : (T : Type 0) (k : List ℕ) (v : T) (es given new : List (Entry T)) → given ≡ es → IsOrdered es → put k v given ≡ new → IsOrdered new
made_ordered T k v es given new same a is = subst (IsOrdered {T = T}) (ap (put k v) (sym same) ∙ is) (put_ordered k v es a)

-- an equal key at i
pub put_same : (T : Type 0) (k : List ℕ) (v : T) (es : List (Entry T)) (i : ℕ) (e : Entry T) → i < length es → get_or es i e ≡ e → slice_cmp nat_cmp k e.key ≡ Equal
    → take i es ++ put k v (drop i es) ≡ set es i (entry k v)
put_same T k v es i e within at same =
    ap (λ l. take i es ++ put k v l) (drop_more es i e within ∙ ap (λ x. x ∷ drop (i + 1) es) at)
    ∙ ap (λ o. take i es ++ match_ordering o (entry k v ∷ e ∷ drop (i + 1) es) (entry k v ∷ drop (i + 1) es) (e ∷ put k v (drop (i + 1) es))) same
    ∙ sym (set_split es i (entry k v) within ∙ ap (λ n. take i es ++ (entry k v) ∷ drop n es) (sym (add-one i)))

all_front : {K : Type 0} (P : K → Type 0) (xs ys : List K) → AllByRecursion P (xs ++ ys) → AllByRecursion P xs
all_front P [] ys a = tt
all_front P (x ∷ xs) ys a = (a.0, all_front P xs ys a.1)

pub front_in_order : {K : Type 0} (R : K → K → Ordering) (xs ys : List K) → IsStrictlySortedBy R (xs ++ ys) → IsStrictlySortedBy R xs
unfolding IsStrictlySortedBy
front_in_order R [] ys a = tt
front_in_order R (x ∷ xs) ys a = (all_front _ xs ys a.0, front_in_order R xs ys a.1)

pub ordered_take : {T : Type 0} (es : List (Entry T)) (i : ℕ) → IsOrdered es → IsOrdered (take i es)
ordered_take {T = T} es i a = front_in_order (slice_cmp nat_cmp) (keys (take i es)) (keys (drop i es))
    (subst (IsStrictlySortedBy (slice_cmp nat_cmp)) (ap keys (sym (take-append-drop i es)) ∙ map-append (λ e. e.key) (take i es) (drop i es)) a)
