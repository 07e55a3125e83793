use Rattle.std.proofs.Common.{subst, refl, arith, ◌<◌}
use Rattle.wf_limits.proofs.Places.{not_found_here, moments_read, count_read, writes_only, sorted_write}
use Rattle.wf_limits.proofs.hands.Hands.leave.Goals as goal

-- a name that has a place is found
pub unreachable-requires : goal.unreachable-requires
unreachable-requires c = let none : 0 < 0 = rw (not_found_here _ _ _ c.in_default.ensures.absent) at c.requires in absurd (omega arith)

pub leave-requires : goal.leave-requires
leave-requires c =
    subst (λ n. 0 < n) (count_read _ _ c.self.view_is c.self.invariant _ _ c.in-Ok.ensures.found _ _ c.index_mut.ensures.value) c.requires

pub invariant_of-self : goal.invariant_of-self
invariant_of-self c = rw c.leave.ensures (sorted_write _ _ c.self.view_is c.self.invariant _ _ c.in-Ok.ensures.found _ _ c.index_mut.ensures.value _ refl)

pub returns : goal.returns
returns c =
    rw (c.leave.ensures, moments_read _ _ c.self.view_is c.self.invariant _ _ c.in-Ok.ensures.found _ _ c.index_mut.ensures.value, count_read _ _ c.self.view_is c.self.invariant _ _ c.in-Ok.ensures.found _ _ c.index_mut.ensures.value)
    (writes_only _ _ c.self.view_is c.self.invariant _ _ c.in-Ok.ensures.found _ _ c.index_mut.ensures.value _ refl)
