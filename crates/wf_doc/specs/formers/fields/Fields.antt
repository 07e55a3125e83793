-- `Fields` as a type that may hold the type that holds it, by its values.
use mathlib.Core.Path.{◌≡◌, refl, sym, ap, subst}
use mathlib.Core.List.{List, [], ◌∷◌, map}
use mathlib.Core.Former.{Former, this, list, via, children}
use base.Stored.{code_map, gcons, coded_list, coded_ℕ}
use denote.RattleType.{RattleType}
use denote.HoleLaws.{Alike}
use denote.HolePlaces.{Recodes, struct_places, laid}
use denote.Hole.Carrier.{listed}
use denote.Hole.Fix.{over}
use denote.Param.Weighed.{Weighed, w_list}
use denote.Model.Placed.{view_places}
use Rattle.std.specs.Prelude.{ℕ}
use Rattle.std.specs.Ordering.{nat_cmp}
use Rattle.std.specs.Cmp.Lexicographic.{slice_cmp}
use Rattle.std.specs.List.Sorted.{IsStrictlySortedBy, IsStrictlySortedBy-prop}
use Rattle.std.specs.formers.vec.Vec as vec
use Rattle.std.specs.declared.alloc.Global.{Global}
use Rattle.std.specs.contracts.alloc.Global as heap
use Rattle.std.specs.contracts.impls.GlobalAllocator.TheImpl.{ghosts}
use Rattle.wf_doc.specs.Fields.{keys, IsOrdered}
use Rattle.wf_doc.specs.declared.fields.Entry.{Entry}
use Rattle.wf_doc.specs.contracts.fields.SharedEntry as SE
use Rattle.wf_doc.specs.formers.fields.SharedEntry as shared
use Rattle.wf_doc.specs.formers.fields.SharedEntry.{on_value}
use Rattle.wf_doc.specs.declared.fields.Fields.TheInside.{Inside}
use Rattle.wf_doc.specs.declared.fields.Fields.TheView.{view, invariant}
use Rattle.wf_doc.specs.contracts.fields.Fields as C
use Rattle.wf_doc.specs.contracts.fields.Fields.TheInside as I

abbrev pub the_former : Former {0} → Former {0}
the_former g = list (shared.the_former g)

abbrev pub the_weighed : {g : Former {0}} → Weighed g → Weighed (the_former g)
the_weighed {g = g} w = w_list (shared.the_weighed w)

pub the_empty : List (Entry ⊥)
the_empty = []

abbrev pub the_items : (X : Type 0) → List (Entry X) → List X
the_items X d = map (λ e. e.value) d

pub the_items_listed : (X : Type 0) (d : List (Entry X)) → listed _ (children (the_former this) X d) ≡ the_items X d
the_items_listed X [] = refl
the_items_listed X (e ∷ es) = ap (λ l. e.value ∷ l) (the_items_listed X es)

abbrev fields : Former {0}
fields = via (vec.the_former (shared.the_former this) Global) Inside (λ X a. a.items) (λ X v. record { items = v }) (λ X a. refl) (λ X v. refl)

same_keys : {X Y : Type 0} (h : X → Y) (es : List (Entry X)) → keys (map (on_value h) es) ≡ keys es
same_keys h [] = refl
same_keys h (e ∷ es) = ap (λ l. e.key ∷ l) (same_keys h es)

IsOrdered-prop : {X : Type 0} (es : List (Entry X)) → IsProp (IsOrdered es)
IsOrdered-prop es = IsStrictlySortedBy-prop (slice_cmp nat_cmp) (keys es)

abbrev Rises : List (List ℕ) → Type 0
Rises = IsStrictlySortedBy (slice_cmp nat_cmp)

module _ (R S : RattleType) (h : R.Denot → S.Denot) where
  pub the_places : Alike R S h → Alike (C.the_row R) (C.the_row S) ((the_former this).map R.Denot S.Denot h)
  the_places a = view_places fields (the_former this) view (λ X Y k u. refl) (λ X u. refl) R.Denot S.Denot h (C.the_row R).coded (C.the_row S).coded
      (invariant R.Denot) (invariant S.Denot) (λ u. IsOrdered-prop u.items.items) (λ u. IsOrdered-prop u.items.items)
      (λ u s. subst Rises (sym (same_keys h u.items.items)) s) (λ u s. subst Rises (same_keys h u.items.items) s)
      (over (I.the_row R)) (over (I.the_row S))
      (struct_places (I.the_type R) (I.the_type S) (vec.mapped (on_value h), tt) _ (λ d. refl) refl (laid _ _ _ (vec.the_places heap.the_row ghosts (SE.the_row R) (SE.the_row S) (on_value h) (shared.the_places R S h a)), tt))

  pub the_codes_placed : Recodes R S h → Recodes (C.the_row R) (C.the_row S) ((the_former this).map R.Denot S.Denot h)
  the_codes_placed e d = sym (code_map (λ x. gcons ((coded_list coded_ℕ).code x.key) (R.coded.code x.value)) (λ x. gcons ((coded_list coded_ℕ).code x.key) (S.coded.code x.value)) (on_value h) (λ x i. gcons ((coded_list coded_ℕ).code x.key) (sym (e x.value) i)) d)
