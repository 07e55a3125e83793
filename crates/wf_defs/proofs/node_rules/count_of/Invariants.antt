use Rattle.std.proofs.Common.{◌≡◌, ◌+◌, ◌≤◌, drop, map}
use Rattle.std.specs.List.{count_by}
use Rattle.wf_machine.specs.Text.{same_text}
use Rattle.wf_defs.specs.NodeRules.{text_of}
use Rattle.wf_defs.proofs.node_rules.count_of.Given as goal

abbrev pub invariant-loop-value : goal.invariant-loop-value
invariant-loop-value l =
    (l.count + count_by (same_text l.text) (map text_of (drop l.value-index l.values)) ≡ count_by (same_text l.text) (map text_of l.values)) × (l.count ≤ l.value-index)
