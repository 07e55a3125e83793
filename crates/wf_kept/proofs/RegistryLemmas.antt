-- Registered definitions in their order.
use Rattle.std.proofs.Common.{◌≡◌, ℕ, ◌+◌, ◌<◌, List, ◌∷◌, ◌++◌, length, get_or, set, take, drop, sym, ap, ◌∙◌, add-one}
use Rattle.std.proofs.lemmas.List.{drop_more, set_split}
use Rattle.std.specs.Cmp.Lexicographic.{slice_cmp}
use Rattle.std.specs.Ordering.{nat_cmp, match_ordering}
use Rattle.std.specs.declared.cmp.Ordering.{Ordering}
use Rattle.std.specs.declared.cmp.Ordering.TheVariants.{Equal}
use Rattle.wf_machine.specs.declared.definition.FlowDef.{FlowDef}
use Rattle.wf_machine.specs.declared.definition.TaskDef.{TaskDef}
use Rattle.wf_machine.specs.Registered.{definition_order, with_flow_def, with_task_def}

-- an item of the same place in the order stands at i: what puts the item into the rest begins with it
put_same : {T : Type 0} (order : T → Ordering) (put : List T → List T) (c : T)
    → ((d : T) (ds : List T) → put (d ∷ ds) ≡ match_ordering (order d) (c ∷ d ∷ ds) (c ∷ ds) (d ∷ put ds))
    → (ds : List T) (i : ℕ) (d : T) → i < length ds → get_or ds i d ≡ d → order d ≡ Equal
    → take i ds ++ put (drop i ds) ≡ set ds i c
put_same order put c step ds i d within at same =
    ap (λ l. take i ds ++ put l) (drop_more ds i d within ∙ ap (λ x. x ∷ drop (i + 1) ds) at)
    ∙ ap (λ l. take i ds ++ l) (step d (drop (i + 1) ds))
    ∙ ap (λ o. take i ds ++ match_ordering o (c ∷ d ∷ drop (i + 1) ds) (c ∷ drop (i + 1) ds) (d ∷ put (drop (i + 1) ds))) same
    ∙ sym (set_split ds i c within ∙ ap (λ n. take i ds ++ c ∷ drop n ds) (sym (add-one i)))

pub put_same_flow : (c : FlowDef) (ds : List FlowDef) (i : ℕ) (d : FlowDef) → i < length ds → get_or ds i d ≡ d → definition_order c d ≡ Equal
    → take i ds ++ with_flow_def c (drop i ds) ≡ set ds i c
put_same_flow c = put_same (definition_order c) (with_flow_def c) c (λ d ds i. match_ordering (definition_order c d) (c ∷ d ∷ ds) (c ∷ ds) (d ∷ with_flow_def c ds))

pub put_same_task : (c : TaskDef) (ds : List TaskDef) (i : ℕ) (d : TaskDef) → i < length ds → get_or ds i d ≡ d → slice_cmp nat_cmp c.name d.name ≡ Equal
    → take i ds ++ with_task_def c (drop i ds) ≡ set ds i c
put_same_task c = put_same (λ d. slice_cmp nat_cmp c.name d.name) (with_task_def c) c (λ d ds i. match_ordering (slice_cmp nat_cmp c.name d.name) (c ∷ d ∷ ds) (c ∷ ds) (d ∷ with_task_def c ds))
