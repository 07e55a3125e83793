use Rattle.std.proofs.Common.{◌≡◌, ◌+◌, ◌-◌, ◌^◌, min, take, length}
use Rattle.json.specs.Print.{escape}
use Rattle.wf_doc.proofs.print_size.quoted_len.Given as goal

abbrev pub invariant-loop-byte : goal.invariant-loop-byte
invariant-loop-byte l = l.total ≡ min (2 + length (escape (take l.byte-index l.text))) (2 ^ 64 - 1)
