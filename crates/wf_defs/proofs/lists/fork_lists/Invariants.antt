use Rattle.std.proofs.Common.{◌≡◌, ◌++◌, codes, drop, map}
use Rattle.wf_defs.specs.Nodes.{branch_lists, branches, field_place, fork_lists}
use Rattle.wf_defs.specs.Lists.{listed_as}
use Rattle.wf_defs.proofs.lists.fork_lists.Given as goal

abbrev pub invariant-loop-n : goal.invariant-loop-n
invariant-loop-n l =
    (map listed_as l.made.items ++ branch_lists l.looped (field_place l.place (codes "forkTasks")) l.n (drop l.n l.branch-items) ≡ fork_lists l.looped l.place l.node) × (l.branch-items ≡ branches l.node)
