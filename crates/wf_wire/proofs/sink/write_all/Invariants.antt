use Rattle.std.proofs.Common.{◌≤◌, length}
use Rattle.wf_wire.proofs.SinkLemmas.{Sent}
use Rattle.wf_wire.proofs.sink.write_all.Given as goal

abbrev pub invariant-loop-rest : goal.invariant-loop-rest
invariant-loop-rest g l =
    Sent (g.W.Sink.taken l.fn.sink) (g.W.Sink.taken l.sink) l.bytes l.rest
    × (g.W.Sink.faults l.fn.sink ≤ g.W.Sink.faults l.sink)

abbrev pub decreases-loop-rest : goal.decreases-loop-rest
decreases-loop-rest g l = length l.rest
