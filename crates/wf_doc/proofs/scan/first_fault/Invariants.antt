use Rattle.std.proofs.Common.{◌≡◌, drop}
use Rattle.wf_doc.specs.Scan as spec
use Rattle.wf_doc.proofs.scan.first_fault.Given as goal

abbrev pub invariant-loop-i : goal.invariant-loop-i
invariant-loop-i l = spec.first_fault spec.outside l.bytes ≡ spec.first_fault l.place (drop l.i l.bytes)
