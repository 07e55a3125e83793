use Rattle.std.proofs.Common.{◌≡◌, ◌≤◌, drop, length}
use Rattle.std.specs.Option.{option_copied}
use Rattle.wf_machine.specs.Marks.{all_nodes, all_of_branches, all_of_cases}
use Rattle.wf_closing.specs.Closing.{fork_before, head_index}
use Rattle.wf_closing.proofs.forks.+forks.Given as goal

-- the nodes from `left` on were looked at
abbrev pub invariant-fork_before-nodes : goal.invariant-fork_before-nodes
invariant-fork_before-nodes l = record {
  within : l.left ≤ length l.nodes;
  found : option_copied l.found ≡ fork_before l.index l.fn.next (all_nodes (drop l.left l.nodes));
  after : l.after ≡ head_index l.fn.next (drop l.left l.nodes);
}

abbrev pub decreases-fork_before-nodes : goal.decreases-fork_before-nodes
decreases-fork_before-nodes l = l.left

abbrev pub invariant-fork_in_branches-branches : goal.invariant-fork_in_branches-branches
invariant-fork_in_branches-branches l = record {
  within : l.left ≤ length l.branches;
  found : option_copied l.found ≡ fork_before l.index l.fn.next (all_of_branches (drop l.left l.branches));
  after : l.after ≡ head_index l.fn.next (all_of_branches (drop l.left l.branches));
}

abbrev pub decreases-fork_in_branches-branches : goal.decreases-fork_in_branches-branches
decreases-fork_in_branches-branches l = l.left

abbrev pub invariant-fork_in_cases-cases : goal.invariant-fork_in_cases-cases
invariant-fork_in_cases-cases l = record {
  within : l.left ≤ length l.cases;
  found : option_copied l.found ≡ fork_before l.index l.fn.next (all_of_cases (drop l.left l.cases));
  after : l.after ≡ head_index l.fn.next (all_of_cases (drop l.left l.cases));
}

abbrev pub decreases-fork_in_cases-cases : goal.decreases-fork_in_cases-cases
decreases-fork_in_cases-cases l = l.left
