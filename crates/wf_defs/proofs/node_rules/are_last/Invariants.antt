use Rattle.std.proofs.Common.{◌≡◌, drop, map}
use Rattle.std.specs.List.{list_all}
use Rattle.wf_fields.specs.Fields.{is_among}
use Rattle.wf_defs.specs.NodeRules.{last_reference, text_of}
use Rattle.wf_defs.proofs.node_rules.are_last.Given as goal

abbrev pub invariant-loop-value : goal.invariant-loop-value
invariant-loop-value l =
    list_all (λ w. is_among w (map last_reference l.branches)) (map text_of (drop l.value-index l.values)) ≡ list_all (λ w. is_among w (map last_reference l.branches)) (map text_of l.values)
