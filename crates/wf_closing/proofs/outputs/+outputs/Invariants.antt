use Rattle.std.proofs.Common.{◌≡◌, drop, map}
use Rattle.wf_machine.specs.Marks.{all_nodes, all_of_branches, all_of_cases}
use Rattle.wf_machine.specs.Sight.{seen}
use Rattle.wf_closing.specs.Closing.{outputs_put}
use Rattle.wf_closing.proofs.outputs.+outputs.Given as goal

-- what is left leads to what the whole makes
abbrev pub invariant-with_outputs-loop-node : goal.invariant-with_outputs-loop-node
invariant-with_outputs-loop-node l =
    outputs_put (map seen l.flow.flow.attempts) l.turn (all_nodes (drop l.node-index l.nodes)) l.made
    ≡ outputs_put (map seen l.flow.flow.attempts) l.turn (all_nodes l.nodes) l.fn.outputs

abbrev pub invariant-with_branches-loop-branch : goal.invariant-with_branches-loop-branch
invariant-with_branches-loop-branch l =
    outputs_put (map seen l.flow.flow.attempts) l.turn (all_of_branches (drop l.branch-index l.branches)) l.made
    ≡ outputs_put (map seen l.flow.flow.attempts) l.turn (all_of_branches l.branches) l.fn.outputs

abbrev pub invariant-with_cases-loop-case : goal.invariant-with_cases-loop-case
invariant-with_cases-loop-case l =
    outputs_put (map seen l.flow.flow.attempts) l.turn (all_of_cases (drop l.case-index l.cases)) l.made
    ≡ outputs_put (map seen l.flow.flow.attempts) l.turn (all_of_cases l.cases) l.fn.outputs
