use Rattle.std.proofs.Common.{◌≡◌, drop, map}
use Rattle.std.specs.Option.{option_copied}
use Rattle.wf_machine.specs.declared.walking.Next.TheVariants.{Done}
use Rattle.wf_machine.specs.Sight.{seen}
use Rattle.wf_machine.specs.Marks.{beside, next_of_nodes, next_of_each, next_of_cases}
use Rattle.wf_tree.proofs.next.+next.Given as goal

-- what is left asks for what the whole list asks for
abbrev pub invariant-next_in-loop-node : goal.invariant-next_in-loop-node
invariant-next_in-loop-node l =
    next_of_nodes (map seen l.flow.flow.attempts) l.iteration l.behind (drop l.node-index l.nodes) ≡ next_of_nodes (map seen l.flow.flow.attempts) l.iteration Done l.nodes

abbrev pub invariant-next_of_all-loop-branch : goal.invariant-next_of_all-loop-branch
invariant-next_of_all-loop-branch l =
    beside l.steps (next_of_each (map seen l.flow.flow.attempts) l.iteration (drop l.branch-index l.branches))
    ≡ next_of_each (map seen l.flow.flow.attempts) l.iteration l.branches

abbrev pub invariant-next_of_key-loop-case : goal.invariant-next_of_key-loop-case
invariant-next_of_key-loop-case l =
    next_of_cases (map seen l.flow.flow.attempts) l.iteration (option_copied l.text) l.otherwise (drop l.case-index l.cases)
    ≡ next_of_cases (map seen l.flow.flow.attempts) l.iteration (option_copied l.text) l.otherwise l.cases
