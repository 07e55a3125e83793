-- A node that breaks no rule has room behind the earlier ones.
use Rattle.std.proofs.Common.{◌≡◌, refl, ℕ, ◌<◌, Bool, true, false, List, [], ◌∷◌, ◌++◌, length, Option, None, Some, arith}
use Rattle.std.proofs.lemmas.Bool.Decides.{nat_tests}
use Rattle.wf_defs.specs.Faults.{or_first_of, first_broken, fault_at}
use Rattle.wf_fields.specs.Fields.{unless}
use Rattle.wf_doc.specs.declared.doc.Doc.{Doc}
use Rattle.wf_defs.specs.NodeRules.{node_number_rule, node_form_rule, reference_rule, type_rule, switch_rule, pair_rule, joined_rule, loop_rule, sub_flow_rule, left_out_rule, room_rule, broken_node_rule}
use Rattle.wf_defs.specs.TaskRules.{table_rule, name_rule}

only_none : (rule : ℕ) (place : Option (List ℕ)) → or_first_of rule place None ≡ None → place ≡ None
only_none rule None none = refl
only_none rule (Some place) none = let no : ⊥ = cc in absurd no

later_none : (rule : ℕ) (place : Option (List ℕ)) (later : Option (ℕ × List ℕ)) → or_first_of rule place later ≡ None → later ≡ None
later_none rule None later none = none
later_none rule (Some place) later none = let no : ⊥ = cc in absurd no

-- where no rule is broken, the last one isn't
last_none : (rules : List (ℕ × Option (List ℕ))) (rule : ℕ) (place : Option (List ℕ)) → first_broken (rules ++ (rule, place) ∷ []) ≡ None → place ≡ None
last_none [] rule place none = only_none rule place none
last_none (r ∷ rules) rule place none = last_none rules rule place (later_none r.0 r.1 (first_broken (rules ++ (rule, place) ∷ [])) none)

holds : (b : Bool) (place : List ℕ) → unless b place ≡ None → b ≡ true
holds true place none = refl
holds false place none = let no : ⊥ = cc in absurd no

room_holds : (most : ℕ) (earlier : List (List ℕ)) → room_rule most earlier ≡ None → length earlier < most
room_holds most earlier none = let tested = holds _ [] none in grind (arith, nat_tests)

no_fault : (table : List ℕ) (broken : Option (ℕ × List ℕ)) → fault_at table broken ≡ None → broken ≡ None
no_fault table None none = refl
no_fault table (Some b) none = let no : ⊥ = cc in absurd no

pub room_left : (most : ℕ) (earlier : List (List ℕ)) (node : Doc) (before after : Option Doc) (looped : Bool) (table : List ℕ) → fault_at table (broken_node_rule most earlier node before after looped) ≡ None → length earlier < most
unfolding broken_node_rule
room_left most earlier node before after looped table none =
    room_holds most earlier
    (last_none
    ((1, table_rule node)
    ∷ (2, name_rule node)
    ∷ (3, node_number_rule node)
    ∷ (5, node_form_rule node)
    ∷ (7, reference_rule earlier node)
    ∷ (8, type_rule node)
    ∷ (9, switch_rule node)
    ∷ (10, pair_rule node before after)
    ∷ (11, joined_rule node before)
    ∷ (12, loop_rule node looped)
    ∷ (13, sub_flow_rule node)
    ∷ (14, left_out_rule node)
    ∷ [])
    15 (room_rule most earlier) (no_fault table (broken_node_rule most earlier node before after looped) none))
