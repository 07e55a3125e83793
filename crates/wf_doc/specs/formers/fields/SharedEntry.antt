-- `SharedEntry` as a type that may hold the type that holds it, by its value.
use mathlib.Core.Path.{refl}
use mathlib.Core.List.{List}
use mathlib.Core.Former.{Former, this, const, pair, via}
use base.Stored.{gcons, gnil, coded_list, coded_ℕ}
use base.Fml.{ftrue}
use denote.RattleType.{RattleType}
use denote.Memory.{part_of}
use denote.RawPtr.{Ptr}
use denote.Sharing.{nothing}
use denote.HoleLaws.{Alike}
use denote.HolePlaces.{Recodes, struct_places, laid, stays, one_value}
use denote.Hole.Fix.{over}
use denote.Param.Weighed.{Weighed, w_via, w_pair, w_const}
use denote.Model.Placed.{view_places}
use Rattle.std.specs.Prelude.{ℕ}
use Rattle.std.specs.declared.sync.Arc.{Arc}
use Rattle.std.specs.contracts.sync.Arc as arc
use Rattle.std.specs.declared.alloc.Global.{Global}
use Rattle.std.specs.contracts.alloc.Global as heap
use Rattle.std.specs.contracts.impls.GlobalAllocator.TheImpl.{ghosts}
use Rattle.wf_doc.specs.declared.fields.Entry.{Entry}
use Rattle.wf_doc.specs.contracts.fields.Entry as E
use Rattle.wf_doc.specs.contracts.text.Text as T
use Rattle.wf_doc.specs.declared.fields.SharedEntry.TheInside.{Inside}
use Rattle.wf_doc.specs.declared.fields.SharedEntry.TheView.{view, invariant}
use Rattle.wf_doc.specs.contracts.fields.SharedEntry as C
use Rattle.wf_doc.specs.contracts.fields.SharedEntry.TheInside as I

abbrev split : (g : Former {0}) (X : Type 0) → Entry (g.Of X) → List ℕ × g.Of X
split g X e = (e.key, e.value)

abbrev join : (g : Former {0}) (X : Type 0) → List ℕ × g.Of X → Entry (g.Of X)
join g X p = record { key = p.0; value = p.1 }

abbrev pub the_former : Former {0} → Former {0}
the_former g = via (pair (const (List ℕ)) g) (λ X. Entry (g.Of X)) (split g) (join g) (λ X e. refl) (λ X p. refl)

abbrev pub the_weighed : {g : Former {0}} → Weighed g → Weighed (the_former g)
the_weighed {g = g} w = w_via (w_pair (w_const (List ℕ)) w) (λ X. Entry (g.Of X)) (split g) (join g) (λ X e. refl) (λ X p. refl)

abbrev fields : Former {0}
fields = via (pair (const Ptr) (the_former this)) Inside (λ X a. (a.held.ptr, a.held.value))
    (λ X v. record { held = record { ptr = v.0; value = v.1 } }) (λ X a. refl) (λ X v. refl)

abbrev pub on_value : {X Y : Type 0} → (X → Y) → Entry X → Entry Y
on_value h e = record { key = e.key; value = h e.value }

abbrev with_value : {X Y : Type 0} → Arc X Global → Y → Arc Y Global
with_value a y = record { ptr = a.ptr; value = y }

abbrev arc_of : RattleType → RattleType
arc_of R = arc.the_row R heap.the_row ghosts

module _ (R S : RattleType) (h : R.Denot → S.Denot) where
  arc_places : Alike R S h → Alike (arc_of R) (arc_of S) (λ b. with_value b (h b.value))
  unfolding part_of
  arc_places a = record {
    mir_same = λ i. (arc_of (one_value R (a.mir_same i) (λ _. ftrue) (λ _ _. nothing) gnil)).mir;
    own_same = λ b i. (arc_of (one_value R (a.mir_same i) (a.own_same b.value i) (a.shr_same b.value i) gnil)).own_val (with_value b tt);
    shr_same = λ b i. (arc_of (one_value R (a.mir_same i) (a.own_same b.value i) (a.shr_same b.value i) gnil)).shr_at (with_value b tt);
  }

module _ (R S : RattleType) (h : R.Denot → S.Denot) where
  entry_places : Alike R S h → Alike (E.the_row R) (E.the_row S) (on_value h)
  entry_places a = struct_places (E.the_type R) (E.the_type S) ((λ k. k), (h, tt)) (on_value h) (λ d. refl) refl (stays T.the_row, (laid _ _ _ a, tt))

  pub the_places : Alike R S h → Alike (C.the_row R) (C.the_row S) ((the_former this).map R.Denot S.Denot h)
  the_places a = view_places fields (the_former this) view (λ X Y k u. refl) (λ X u. refl) R.Denot S.Denot h (C.the_row R).coded (C.the_row S).coded
      (invariant R.Denot) (invariant S.Denot) (λ u p q. refl) (λ u p q. refl) (λ u e. tt) (λ u e. tt)
      (over (I.the_row R)) (over (I.the_row S))
      (struct_places (I.the_type R) (I.the_type S) ((λ b. with_value b (on_value h b.value)), tt) _ (λ d. refl) refl
      (laid _ _ _ (arc_places (E.the_row R) (E.the_row S) (on_value h) (entry_places a)), tt))

  pub the_codes_placed : Recodes R S h → Recodes (C.the_row R) (C.the_row S) ((the_former this).map R.Denot S.Denot h)
  the_codes_placed e d = λ i. gcons ((coded_list coded_ℕ).code d.key) (e d.value i)
