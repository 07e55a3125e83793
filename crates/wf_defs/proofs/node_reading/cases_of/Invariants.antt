use Rattle.std.proofs.Common.{◌≡◌, length, min}
use Rattle.wf_defs.specs.NodeReading.{cases_of}
use Rattle.wf_defs.proofs.node_reading.cases_of.Given as goal

abbrev pub invariant-loop-nodes : goal.invariant-loop-nodes
invariant-loop-nodes l =
    (l.made ≡ cases_of l.entries l.yielded) × (l.n ≡ min (length l.yielded) (length l.entries))
