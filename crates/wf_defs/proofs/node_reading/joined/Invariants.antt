use Rattle.std.proofs.Common.{◌≡◌, ◌++◌, drop, map}
use Rattle.wf_defs.specs.NodeRules.{joined, text_of}
use Rattle.wf_defs.proofs.node_reading.joined.Given as goal

abbrev pub invariant-loop-value : goal.invariant-loop-value
invariant-loop-value l =
    (l.made ++ map text_of (drop l.value-index l.value-items) ≡ joined l.node) × (map text_of l.value-items ≡ joined l.node)
