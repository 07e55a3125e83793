use Rattle.std.proofs.Common.{arith}
use Rattle.std.proofs.lemmas.Grind.{common_steps}
use Rattle.wf_commands.proofs.TurnLemmas.{over_more, over_stops}
use Rattle.wf_commands.proofs.batch.serve.Goals as goal

pub returns-in-Stops-clause-run : goal.returns-in-Stops-clause-run
returns-in-Stops-clause-run g c =
    over_stops c.args.core.now.limits c.args.moment (g.R.Source.left c.args.source.now) (g.W.Sink.taken c.args.sink.now)
    c.loop-turn.inbox.offset c.loop-turn.inbox.held (g.R.Source.left c.loop-turn.source) c.loop-turn.core.state c.loop-turn.in_force (g.W.Sink.taken c.loop-turn.sink)
    c.loop-turn.invariant.stands c.take_turn.new.moment c.take_turn.new.inbox.offset c.take_turn.new.inbox.held (g.R.Source.left c.take_turn.new.source) c.take_turn.new.core.state
    (g.W.Sink.taken c.take_turn.new.sink) c.loop-turn.core.limits c.loop-turn.invariant.limits c.in-Stops.status c.in-Stops.ensures.turn

pub returns-in-Stops-clause-usage : goal.returns-in-Stops-clause-usage
returns-in-Stops-clause-usage g c = λ e. c.in-Stops.ensures.own_status (cc)

pub loop-turn-preserved : goal.loop-turn-preserved
loop-turn-preserved g c = record {
  stands =
      over_more c.args.core.now.limits c.args.moment (g.R.Source.left c.args.source.now) (g.W.Sink.taken c.args.sink.now)
      c.loop-turn.inbox.offset c.loop-turn.inbox.held (g.R.Source.left c.loop-turn.source) c.loop-turn.core.state c.loop-turn.in_force (g.W.Sink.taken c.loop-turn.sink)
      c.loop-turn.invariant.stands c.take_turn.new.moment c.take_turn.new.inbox.offset c.take_turn.new.inbox.held (g.R.Source.left c.take_turn.new.source) c.take_turn.new.core.state
      (g.W.Sink.taken c.take_turn.new.sink) c.loop-turn.core.limits c.loop-turn.invariant.limits c.in-Goes.ensures.turn;
  moment = c.take_turn.ensures.moment;
  within = grind (arith, common_steps);
  entries = grind (arith, common_steps);
  limits = grind (arith, common_steps);
  source_count = grind (arith, common_steps);
  sink_count = grind (arith, common_steps);
}
