use Rattle.std.proofs.Common.{◌≡◌, ◌≤◌, drop}
use Rattle.std.specs.Prelude.{slice_range}
use Rattle.wf_wire.specs.Closing.{holds_close}
use Rattle.wf_wire.proofs.CloseLemmas.{some_close}
use Rattle.wf_wire.proofs.close.holds_close.Given as goal

abbrev pub invariant-loop-at : goal.invariant-loop-at
invariant-loop-at l = (holds_close l.value ≡ some_close (slice_range l.value l.start l.at) (drop l.at l.value)) × (l.start ≤ l.at)
