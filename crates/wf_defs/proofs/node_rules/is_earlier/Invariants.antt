use Rattle.std.proofs.Common.{◌≡◌, drop}
use Rattle.wf_fields.specs.Fields.{is_among}
use Rattle.wf_defs.proofs.node_rules.is_earlier.Given as goal

abbrev pub invariant-loop-other : goal.invariant-loop-other
invariant-loop-other l =
    is_among l.reference (drop l.other-index l.earlier) ≡ is_among l.reference l.earlier
