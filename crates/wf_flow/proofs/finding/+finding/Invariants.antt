use Rattle.std.proofs.Common.{◌≡◌, drop}
use Rattle.std.specs.List.{find}
use Rattle.wf_machine.specs.Marks.{all_nodes, all_of_branches, all_of_cases}
use Rattle.wf_flow.proofs.finding.+finding.Given as goal

abbrev pub invariant-find_in-loop-node : goal.invariant-find_in-loop-node
invariant-find_in-loop-node g l =
    find (g.T.NodeTest.passes l.test) (all_nodes (drop l.node-index l.nodes)) ≡ find (g.T.NodeTest.passes l.test) (all_nodes l.nodes)

abbrev pub invariant-find_in_branches-loop-branch : goal.invariant-find_in_branches-loop-branch
invariant-find_in_branches-loop-branch g l =
    find (g.T.NodeTest.passes l.test) (all_of_branches (drop l.branch-index l.branches)) ≡ find (g.T.NodeTest.passes l.test) (all_of_branches l.branches)

abbrev pub invariant-find_in_cases-loop-case : goal.invariant-find_in_cases-loop-case
invariant-find_in_cases-loop-case g l =
    find (g.T.NodeTest.passes l.test) (all_of_cases (drop l.case-index l.cases)) ≡ find (g.T.NodeTest.passes l.test) (all_of_cases l.cases)
