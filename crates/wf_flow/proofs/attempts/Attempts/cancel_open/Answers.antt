use Rattle.std.proofs.lemmas.List.Edits.{map_over_more}
use Rattle.wf_machine.specs.State.{canceled}
use Rattle.wf_flow.proofs.attempts.Attempts.cancel_open.Goals as goal

pub loop-attempt-preserved : goal.loop-attempt-preserved
loop-attempt-preserved c =
    rw (c.cancel.ensures, ← c.attempt-item.is)
    (map_over_more (canceled c.args.moment) c.deref_mut-attempt-items.result.now c.loop-attempt.attempt-items c.loop-attempt.attempt-index c.attempt-item.result c.loop-attempt-test.true c.loop-attempt.invariant c.attempt-item.is)
