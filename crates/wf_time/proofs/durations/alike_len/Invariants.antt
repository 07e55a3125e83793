use Rattle.std.proofs.Common.{◌≡◌, ◌+◌, drop}
use Rattle.std.specs.List.{prefix_len}
use Rattle.wf_time.specs.Durations.{are_alike}
use Rattle.wf_time.proofs.durations.alike_len.Given as goal

abbrev pub invariant-loop-i : goal.invariant-loop-i
invariant-loop-i l = prefix_len (are_alike l.first) l.bytes ≡ l.i + prefix_len (are_alike l.first) (drop l.i l.bytes)
