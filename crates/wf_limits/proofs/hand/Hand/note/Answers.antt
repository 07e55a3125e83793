use Rattle.std.proofs.Common.{sym, subst, refl, ◌≤◌}
use Rattle.std.specs.Option.{ForSome}
use Rattle.circular_buffer.specs.Buffer.{last_item}
use Rattle.wf_limits.specs.Hands.{HandOuts}
use Rattle.wf_limits.proofs.Kept.{kept}
use Rattle.wf_limits.proofs.hand.Hand.note.Goals as goal

-- the buffer keeps the last 1,000, and they rise
pub invariant_of-self : goal.invariant_of-self
invariant_of-self c =
    let order = subst (λ (h : HandOuts). ForSome (last_item h.moments) (λ last. last ≤ c.args.moment)) (sym c.self.view_is) c.requires in
    let after = kept 1000 c.self.inside.recent.items c.args.moment c.self.invariant.2 order in
    rw (c.push_back.ensures.items, c.self.invariant.0) (refl, after.few, after.rising)
