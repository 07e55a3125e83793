use Rattle.wf_limits.proofs.Scans.{puts_first, stays_first}
use Rattle.wf_limits.proofs.plain.PlainHands.reserve.Goals as goal

pub returns-in-Some-clause-ok : goal.returns-in-Some-clause-ok
returns-in-Some-clause-ok c = stays_first _ _ _ c.in-Some.ensures.found

pub returns-in_ok-insert-in-None-clause-ok : goal.returns-in_ok-insert-in-None-clause-ok
returns-in_ok-insert-in-None-clause-ok c = rw (c.in_ok-insert-in-None.ensures.items, c.self.view_is, c.in_ok-hand-in-None.ensures) (puts_first _ _ c.in-None.ensures.absent)
