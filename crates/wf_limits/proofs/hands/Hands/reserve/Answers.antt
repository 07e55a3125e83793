use Rattle.std.proofs.Common.{sym, subst, ap}
use Rattle.wf_limits.specs.Hands.{HandOuts, AreSorted}
use Rattle.wf_limits.proofs.Places.{reserves, sorted_insert, found_here}
use Rattle.wf_limits.proofs.Lookups.{stays}
use Rattle.wf_limits.proofs.hands.Hands.reserve.Goals as goal

-- the new name goes into its gap
pub invariant_of-self-in-Err : goal.invariant_of-self-in-Err
invariant_of-self-in-Err c =
    rw c.in_ok-insert-in-Err.ensures.items
    (sorted_insert _ _ _ (rw c.self.view_is c.in-Err.ensures.absent) _ (sym (ap (λ (h : HandOuts). h.name) c.in_ok-hand-in-Err.ensures)) c.self.invariant)

-- the name has its place already
pub returns-in-Ok-clause-ok : goal.returns-in-Ok-clause-ok
returns-in-Ok-clause-ok c = stays _ _ _ (found_here _ (subst AreSorted c.self.view_is c.self.invariant) _ _ c.in-Ok.ensures.found)

pub returns-in_ok-insert-in-Err-clause-ok : goal.returns-in_ok-insert-in-Err-clause-ok
returns-in_ok-insert-in-Err-clause-ok c =
    rw (c.in_ok-insert-in-Err.ensures.items, c.self.view_is, c.in_ok-hand-in-Err.ensures) (reserves _ _ _ c.in-Err.ensures.absent)
