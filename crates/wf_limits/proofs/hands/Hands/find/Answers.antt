use Rattle.std.proofs.Common.{sym, subst, arith}
use Rattle.std.proofs.lemmas.List.{get_or_default}
use Rattle.wf_limits.specs.Hands.{AreSorted, nameless}
use Rattle.wf_limits.proofs.Places.{found_here, not_found_here}
use Rattle.wf_limits.proofs.hands.Hands.find.Goals as goal

-- the name is at its place, and the hand there is the one that was read
pub returns-in-Ok : goal.returns-in-Ok
returns-in-Ok c =
    let value = found_here _ (subst AreSorted c.self.view_is c.self.invariant) _ _ c.in-Ok.ensures.found in
    let read = get_or_default _ _ c.index.result.now nameless c.in-Ok.ensures.found.in_range in
    grind (arith, c.self.view_is)

-- the name is not there
pub returns-in-Err : goal.returns-in-Err
returns-in-Err c = sym (not_found_here _ _ _ c.in-Err.ensures.absent)
