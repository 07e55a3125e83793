use Rattle.std.proofs.Common.{◌≡◌, take}
use Rattle.wf_doc.proofs.doc.+copy.Given as goal

abbrev pub invariant-copy_items-loop-item : goal.invariant-copy_items-loop-item
invariant-copy_items-loop-item l = (l.made ≡ take l.item-index l.item-items) × (l.item-items ≡ l.items)
