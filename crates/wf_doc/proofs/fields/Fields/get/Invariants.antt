use Rattle.std.proofs.Common.{◌≡◌, drop}
use Rattle.wf_doc.specs.Fields.{get}
use Rattle.wf_doc.proofs.fields.Fields.get.Given as goal

abbrev pub invariant-loop-item : goal.invariant-loop-item
invariant-loop-item g l = get l.key l.item-items ≡ get l.key (drop l.item-index l.item-items)
