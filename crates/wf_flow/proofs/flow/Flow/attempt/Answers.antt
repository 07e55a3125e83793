use Rattle.std.proofs.Common.{◌∙◌}
use Rattle.wf_flow.proofs.PlaceLemmas.{numbered_at}
use Rattle.wf_flow.proofs.flow.Flow.attempt.Goals as goal

pub returns-in-Some : goal.returns-in-Some
returns-in-Some c =
    rw (← c.self.view_is) (c.get.ensures ∙ numbered_at 1 c.args.task _ c.in-Some.place c.self.invariant.rising c.in-Some.ensures.some)
