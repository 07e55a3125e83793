use Rattle.std.proofs.Common.{rules}
use Rattle.wf_commands.proofs.TurnLemmas.{part_written}
use Rattle.wf_commands.proofs.batch.answer.Goals as goal

pub returns-then-is_err-clause-turn : goal.returns-then-is_err-clause-turn
returns-then-is_err-clause-turn g c = (
  c.in-Ok.answer.text,
  (
    c.in-Ok.answer.last,
    (c.in-Ok.ensures.answer, part_written (g.W.Sink.taken c.args.sink.now) (g.W.Sink.taken c.write_all.new.sink) c.in-Ok.answer.text c.write_all.result (search rules) (search rules)),
  ),
)
