use Rattle.wf_commands.proofs.CheckLemmas.{completes_over}
use Rattle.wf_commands.proofs.check.check.Goals as goal

pub returns-clause-run : goal.returns-clause-run
returns-clause-run g c = λ command. (c.standard_limits-limits.result, (c.standard_limits-limits.ensures, c.check_source.ensures.run))

pub returns-clause-complete : goal.returns-clause-complete
returns-clause-complete g c = λ command sound_source sound_sink.
    let limits = c.standard_limits-limits.result in
    let left = g.R.Source.left in
    let taken = g.W.Sink.taken in (
      limits,
      (
        c.standard_limits-limits.ensures,
        completes_over limits (left c.args.source.now) (left c.check_source.new.source) (taken c.args.sink.now) (taken c.check_source.new.sink)
            c.check_source.result c.check_source.ensures.run
            (λ e. sound_source (c.check_source.ensures.read_fault e)) (λ e. sound_sink (c.check_source.ensures.write_fault e)),
      ),
    )
