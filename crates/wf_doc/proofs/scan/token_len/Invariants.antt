use Rattle.std.proofs.Common.{◌≡◌, ◌+◌, drop}
use Rattle.std.specs.List.{prefix_len}
use Rattle.wf_doc.specs.Scan as spec
use Rattle.wf_doc.proofs.scan.token_len.Given as goal

abbrev pub invariant-loop-i : goal.invariant-loop-i
invariant-loop-i l = prefix_len spec.is_number_byte l.bytes ≡ l.i + prefix_len spec.is_number_byte (drop l.i l.bytes)
