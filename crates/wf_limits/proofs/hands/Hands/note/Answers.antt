use Rattle.std.proofs.Common.{subst, refl, ◌≤◌}
use mathlib.Core.Bool.{false≢true}
use Rattle.std.specs.Option.{ForSome}
use Rattle.circular_buffer.specs.Buffer.{last_item}
use Rattle.wf_limits.proofs.Places.{not_found_here, moments_read, count_read, writes_only, sorted_write}
use Rattle.wf_limits.proofs.hands.Hands.note.Goals as goal

-- a name that has a place is found
pub unreachable-requires : goal.unreachable-requires
unreachable-requires c = absurd (false≢true (rw (not_found_here _ _ _ c.in_default.ensures.absent) at c.requires.reserved))

pub note-requires : goal.note-requires
note-requires c =
    subst (λ ms. ForSome (last_item ms) (λ last. last ≤ c.args.moment)) (moments_read _ _ c.self.view_is c.self.invariant _ _ c.in-Ok.ensures.found _ _ c.index_mut.ensures.value) c.requires.order

pub invariant_of-self : goal.invariant_of-self
invariant_of-self c = rw c.note.ensures (sorted_write _ _ c.self.view_is c.self.invariant _ _ c.in-Ok.ensures.found _ _ c.index_mut.ensures.value _ refl)

pub returns : goal.returns
returns c =
    rw (c.note.ensures, moments_read _ _ c.self.view_is c.self.invariant _ _ c.in-Ok.ensures.found _ _ c.index_mut.ensures.value, count_read _ _ c.self.view_is c.self.invariant _ _ c.in-Ok.ensures.found _ _ c.index_mut.ensures.value)
    (writes_only _ _ c.self.view_is c.self.invariant _ _ c.in-Ok.ensures.found _ _ c.index_mut.ensures.value _ refl)
