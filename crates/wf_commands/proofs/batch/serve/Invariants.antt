use Rattle.std.proofs.Common.{◌≡◌, ◌≤◌, ◌+◌, length}
use Rattle.wf_machine.specs.Records.{IsMoment}
use Rattle.wf_commands.specs.Turns.{StandsOver}
use Rattle.wf_commands.proofs.batch.serve.Given as goal

abbrev pub invariant-loop-turn : goal.invariant-loop-turn
invariant-loop-turn g l = record {
  stands : StandsOver l.fn.core.limits l.moment (g.R.Source.left l.fn.source) (g.W.Sink.taken l.fn.sink) l.inbox.offset l.inbox.held (g.R.Source.left l.source) l.core.state l.in_force (g.W.Sink.taken l.sink);
  moment : IsMoment l.in_force;
  within : l.inbox.offset + length l.inbox.held ≤ l.core.limits.input;
  entries : l.core.entries ≤ l._turn;
  limits : l.core.limits ≡ l.fn.core.limits;
  source_count : g.R.Source.faults l.fn.source ≤ g.R.Source.faults l.source;
  sink_count : g.W.Sink.faults l.fn.sink ≤ g.W.Sink.faults l.sink;
}
