use Rattle.std.proofs.Common.{◌≡◌, drop, map}
use Rattle.wf_fields.specs.Fields.{is_among}
use Rattle.wf_defs.specs.NodeRules.{last_reference}
use Rattle.wf_defs.proofs.node_rules.is_last.Given as goal

abbrev pub invariant-loop-branch : goal.invariant-loop-branch
invariant-loop-branch l =
    is_among l.word (map last_reference (drop l.branch-index l.branches)) ≡ is_among l.word (map last_reference l.branches)
