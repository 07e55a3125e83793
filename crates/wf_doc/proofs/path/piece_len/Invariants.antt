use Rattle.std.proofs.Common.{◌≡◌, ◌+◌, drop}
use Rattle.std.specs.List.{prefix_len}
use Rattle.wf_doc.specs.Path.{is_inside}
use Rattle.wf_doc.proofs.path.piece_len.Given as goal

abbrev pub invariant-loop-i : goal.invariant-loop-i
invariant-loop-i l = prefix_len is_inside l.text ≡ l.i + prefix_len is_inside (drop l.i l.text)
