use Rattle.std.proofs.Common.{◌≡◌, ◌++◌, codes, drop, map}
use Rattle.wf_defs.specs.Nodes.{case_lists, cases, field_place}
use Rattle.wf_defs.specs.Lists.{listed_as}
use Rattle.wf_defs.proofs.lists.switch_lists.Given as goal

abbrev pub invariant-loop-entry : goal.invariant-loop-entry
invariant-loop-entry l =
    (map listed_as l.made.items ++ case_lists l.looped (field_place l.place (codes "decisionCases")) (drop l.entry-index l.entry-items) ≡ case_lists l.looped (field_place l.place (codes "decisionCases")) (cases l.node)) × (l.entry-items ≡ cases l.node)
