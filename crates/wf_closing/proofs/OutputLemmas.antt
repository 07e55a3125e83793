-- The outputs of nodes, one list of nodes after another.
use Rattle.std.proofs.Common.{◌≡◌, sym, refl, ℕ, ◌+◌, ◌<◌, ◌≤◌, List, [], ◌∷◌, ◌++◌, drop, length, get_or}
use Rattle.std.proofs.lemmas.List.{drop_more}
use Rattle.std.proofs.Math.ListN.{drop_of_length-le}
use Rattle.wf_doc.specs.declared.doc.Doc.{Doc}
use Rattle.wf_doc.specs.declared.fields.Entry.{Entry}
use Rattle.wf_machine.specs.declared.definition.Branch.{Branch, out-Branch}
use Rattle.wf_machine.specs.declared.definition.Case.{Case, out-Case}
use Rattle.wf_machine.specs.declared.definition.Node.{Node}
use Rattle.wf_machine.specs.Marks.{all_nodes, all_of_branches, all_of_cases, inside_kind, last_of}
use Rattle.wf_machine.specs.Sight.{Seen}
use Rattle.wf_closing.specs.Closing.{last_put, outputs_put}

outputs_append : (f : List Seen) (turn : ℕ) (a b : List Node) (fs : List (Entry Doc)) → outputs_put f turn (a ++ b) fs ≡ outputs_put f turn b (outputs_put f turn a fs)
outputs_append f turn [] b fs = refl
outputs_append f turn (n ∷ rest) b fs = outputs_append f turn rest b (last_put n.reference (last_of f n.index turn) fs)

pub node_more : (f : List Seen) (turn : ℕ) (xs : List Node) (k : ℕ) (x : Node) (fs made : List (Entry Doc)) → k < length xs → x ≡ get_or xs k x
    → made ≡ outputs_put f turn (inside_kind x.kind) (last_put x.reference (last_of f x.index turn) fs)
    → outputs_put f turn (all_nodes (drop (k + 1) xs)) made ≡ outputs_put f turn (all_nodes (drop k xs)) fs
node_more f turn xs k x fs made lt is e =
    rw (drop_more xs k x lt, ← is, e) (sym (outputs_append f turn (inside_kind x.kind) (all_nodes (drop (k + 1) xs)) (last_put x.reference (last_of f x.index turn) fs)))

pub nodes_all : (f : List Seen) (turn : ℕ) (xs : List Node) (k : ℕ) (fs : List (Entry Doc)) → length xs ≤ k → outputs_put f turn (all_nodes (drop k xs)) fs ≡ fs
nodes_all f turn xs k fs past = rw (drop_of_length-le xs past) refl

pub branch_more : (f : List Seen) (turn : ℕ) (xs : List Branch) (k : ℕ) (x : Branch) (fs made : List (Entry Doc)) → k < length xs → x ≡ get_or xs k x
    → made ≡ outputs_put f turn (all_nodes (out-Branch x).nodes) fs
    → outputs_put f turn (all_of_branches (drop (k + 1) xs)) made ≡ outputs_put f turn (all_of_branches (drop k xs)) fs
branch_more f turn xs k x fs made lt is e =
    rw (drop_more xs k x lt, ← is, e) (sym (outputs_append f turn (all_nodes (out-Branch x).nodes) (all_of_branches (drop (k + 1) xs)) fs))

pub branches_all : (f : List Seen) (turn : ℕ) (xs : List Branch) (k : ℕ) (fs : List (Entry Doc)) → length xs ≤ k → outputs_put f turn (all_of_branches (drop k xs)) fs ≡ fs
branches_all f turn xs k fs past = rw (drop_of_length-le xs past) refl

pub case_more : (f : List Seen) (turn : ℕ) (xs : List Case) (k : ℕ) (x : Case) (fs made : List (Entry Doc)) → k < length xs → x ≡ get_or xs k x
    → made ≡ outputs_put f turn (all_nodes (out-Case x).nodes) fs
    → outputs_put f turn (all_of_cases (drop (k + 1) xs)) made ≡ outputs_put f turn (all_of_cases (drop k xs)) fs
case_more f turn xs k x fs made lt is e =
    rw (drop_more xs k x lt, ← is, e) (sym (outputs_append f turn (all_nodes (out-Case x).nodes) (all_of_cases (drop (k + 1) xs)) fs))

pub cases_all : (f : List Seen) (turn : ℕ) (xs : List Case) (k : ℕ) (fs : List (Entry Doc)) → length xs ≤ k → outputs_put f turn (all_of_cases (drop k xs)) fs ≡ fs
cases_all f turn xs k fs past = rw (drop_of_length-le xs past) refl

-- the cases of a SWITCH before its default list
pub choice_more : (f : List Seen) (turn : ℕ) (cases : List Case) (nodes : List Node) (fs made : List (Entry Doc)) → made ≡ outputs_put f turn (all_of_cases cases) fs
    → outputs_put f turn (all_nodes nodes) made ≡ outputs_put f turn (all_of_cases cases ++ all_nodes nodes) fs
choice_more f turn cases nodes fs made e = rw e (sym (outputs_append f turn (all_of_cases cases) (all_nodes nodes) fs))
