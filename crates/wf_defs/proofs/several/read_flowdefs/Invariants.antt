use Rattle.std.proofs.Common.{◌≡◌, drop, take, map}
use Rattle.wf_defs.specs.FlowReading.{flow_definition}
use Rattle.wf_defs.specs.FlowRules.{flow_rule}
use Rattle.wf_defs.specs.Several.{first_fault_in}
use Rattle.wf_defs.proofs.several.read_flowdefs.Given as goal

abbrev pub invariant-loop-n : goal.invariant-loop-n
invariant-loop-n l =
    (l.defs ≡ map (flow_definition l.limits.nodes) (take l.n l.docs))
    × (first_fault_in (flow_rule l.limits.nodes) l.n (drop l.n l.docs) ≡ first_fault_in (flow_rule l.limits.nodes) 0 l.docs)
