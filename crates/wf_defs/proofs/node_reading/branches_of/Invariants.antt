use Rattle.std.proofs.Common.{◌≡◌, map}
use Rattle.wf_defs.specs.NodeReading.{branch_of}
use Rattle.wf_defs.proofs.node_reading.branches_of.Given as goal

abbrev pub invariant-loop-nodes : goal.invariant-loop-nodes
invariant-loop-nodes l =
    l.made ≡ map branch_of l.yielded
