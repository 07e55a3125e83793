use Rattle.std.proofs.Common.{◌≡◌, ◌-◌, ◌^◌, min, map, take}
use Rattle.wf_doc.specs.Doc.{depth, largest}
use Rattle.wf_doc.proofs.doc.+depth.Given as goal

abbrev pub invariant-loop-item : goal.invariant-loop-item
invariant-loop-item l = l.most ≡ min (largest (map depth (take l.item-index l.item-items))) (2 ^ 32 - 1)

abbrev pub invariant-loop-entry : goal.invariant-loop-entry
invariant-loop-entry l = l.most ≡ min (largest (map (λ e. depth e.value) (take l.entry-index l.entry-items))) (2 ^ 32 - 1)
