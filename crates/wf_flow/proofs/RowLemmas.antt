-- The nodes inside a node, read at the lists that contracts name.
use Rattle.std.proofs.Common.{◌≡◌, List, ◌∷◌, ◌++◌, ap, refl, sym, ◌∙◌}
use Rattle.wf_machine.specs.declared.definition.Node.{Node}
use Rattle.wf_machine.specs.declared.definition.Count.{Count}
use Rattle.wf_machine.specs.declared.definition.Case.{Case', outs-Case', Row_of-Node, end_of-Node, more_of-Node, items-the_row-Node, items_shown-the_row-Node-1, items_hidden-the_row-Node-1}
use Rattle.wf_machine.specs.declared.definition.Branch.{Branch, Branch', outs-Branch'}
use Rattle.wf_machine.specs.declared.definition.Cases.{Cases, out-Cases, Cases', outs-Cases', Row_of-Case, end_of-Case, more_of-Case, items-the_row-Case, items_shown-the_row-Case-2}
use Rattle.wf_machine.specs.declared.definition.NodeKind.{Switch, Fork, Loop, Row_of-Branch, end_of-Branch, more_of-Branch, items-the_row-Branch, items_hidden-the_row-Branch-0}
use Rattle.wf_machine.specs.declared.definition.NodeKind.TheBlock.{hidden-the_row-Node-1, hidden-the_row-Branch-0}
use Rattle.wf_machine.specs.Marks.{in_row, in_branches, in_cases, inside_kind, all_nodes, all_of_branches, all_of_cases}

row_all : {m : _} (r : Row_of-Node m) → in_row r ≡ all_nodes (items-the_row-Node m r)
row_all end_of-Node = refl
row_all (more_of-Node index name reference optional start_delay input kind rest) =
    ap
    (λ l. record {
      index = index;
      name = name;
      reference = reference;
      optional = optional;
      start_delay = start_delay;
      input = input;
      kind = kind;
    } ∷ inside_kind kind ++ l)
    (row_all rest)

branches_all : {m : _} (r : Row_of-Branch m) → in_branches r ≡ all_of_branches (items-the_row-Branch m r)
branches_all end_of-Branch = refl
branches_all (more_of-Branch (Branch' s nodes) rest) =
    let inner = row_all nodes ∙ ap all_nodes (sym (items_shown-the_row-Node-1 s nodes) ∙ ap (λ b. b.nodes) (sym (outs-Branch' s nodes))) in
    rw (inner, branches_all rest) refl

cases_all : {m : _} (r : Row_of-Case m) → in_cases r ≡ all_of_cases (items-the_row-Case m r)
cases_all end_of-Case = refl
cases_all (more_of-Case (Case' key s nodes) rest) =
    let inner = row_all nodes ∙ ap all_nodes (sym (items_shown-the_row-Node-1 s nodes) ∙ ap (λ c. c.nodes) (sym (outs-Case' key s nodes))) in
    rw (inner, cases_all rest) refl

pub inside_fork : (branches : List Branch) → inside_kind (Fork branches) ≡ all_of_branches branches
inside_fork branches = branches_all (hidden-the_row-Branch-0 branches) ∙ ap all_of_branches (items_hidden-the_row-Branch-0 branches)

pub inside_loop : (count : Count) (body : List Node) → inside_kind (Loop count body) ≡ all_nodes body
inside_loop count body = row_all (hidden-the_row-Node-1 body) ∙ ap all_nodes (items_hidden-the_row-Node-1 body)

pub inside_switch : (choice : Cases) → inside_kind (Switch choice) ≡ all_of_cases (out-Cases choice).cases ++ all_nodes (out-Cases choice).otherwise
inside_switch (Cases' param s cases t nodes) =
    let one = cases_all cases ∙ ap all_of_cases (sym (items_shown-the_row-Case-2 s cases) ∙ ap (λ c. c.cases) (sym (outs-Cases' param s cases t nodes))) in
    let two = row_all nodes ∙ ap all_nodes (sym (items_shown-the_row-Node-1 t nodes) ∙ ap (λ c. c.otherwise) (sym (outs-Cases' param s cases t nodes))) in
    rw (one, two) refl
