use Rattle.std.proofs.Common.{◌≡◌, drop, map}
use Rattle.wf_defs.specs.NodeRules.{first_used}
use Rattle.wf_defs.proofs.node_rules.first_used.Given as goal

abbrev pub invariant-loop-name : goal.invariant-loop-name
invariant-loop-name l =
    first_used l.doc (map (λ name. name.now) (drop l.name-index l.names)) ≡ first_used l.doc (map (λ name. name.now) l.names)
