use Rattle.std.proofs.Common.{subst, refl, ◌<◌, ◌^◌}
use mathlib.Core.Bool.{false≢true}
use Rattle.wf_limits.proofs.Places.{not_found_here, moments_read, count_read, writes_only, sorted_write}
use Rattle.wf_limits.proofs.hands.Hands.enter.Goals as goal

-- a name that has a place is found
pub unreachable-requires : goal.unreachable-requires
unreachable-requires c = absurd (false≢true (rw (not_found_here _ _ _ c.in_default.ensures.absent) at c.requires.reserved))

pub enter-requires : goal.enter-requires
enter-requires c =
    subst (λ n. n < 2 ^ 56) (count_read _ _ c.self.view_is c.self.invariant _ _ c.in-Ok.ensures.found _ _ c.index_mut.ensures.value) c.requires.room

pub invariant_of-self : goal.invariant_of-self
invariant_of-self c = rw c.enter.ensures (sorted_write _ _ c.self.view_is c.self.invariant _ _ c.in-Ok.ensures.found _ _ c.index_mut.ensures.value _ refl)

pub returns : goal.returns
returns c =
    rw (c.enter.ensures, moments_read _ _ c.self.view_is c.self.invariant _ _ c.in-Ok.ensures.found _ _ c.index_mut.ensures.value, count_read _ _ c.self.view_is c.self.invariant _ _ c.in-Ok.ensures.found _ _ c.index_mut.ensures.value)
    (writes_only _ _ c.self.view_is c.self.invariant _ _ c.in-Ok.ensures.found _ _ c.index_mut.ensures.value _ refl)
