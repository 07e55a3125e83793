use Rattle.std.proofs.Common.{◌≡◌, drop, map}
use Rattle.std.specs.List.{list_all}
use Rattle.wf_defs.specs.NodeRules.{is_once, last_reference, text_of}
use Rattle.wf_defs.proofs.node_rules.are_once.Given as goal

abbrev pub invariant-loop-branch : goal.invariant-loop-branch
invariant-loop-branch l =
    list_all (is_once (map text_of l.values)) (map last_reference (drop l.branch-index l.branches)) ≡ list_all (is_once (map text_of l.values)) (map last_reference l.branches)
