use Rattle.std.proofs.Common.{length, sym, ap, subst, ◌∙◌}
use Rattle.wf_lock.specs.Places.{ArePlaces}
use Rattle.wf_lock.proofs.RestLemmas.{rest_idle, rest_out, rests_free}
use Rattle.wf_lock.proofs.lock.HistoryLock.turn.Goals as goal

pub invariant_of-pass : goal.invariant_of-pass
invariant_of-pass g c =
    let old = c.pass.inside.seat.me in let e = c.in_err-place.ensures.spent in
    let idle = rests_free old.1 (length old.0.seen) old.0.stage c.pass.invariant.0 (ap (λ s. s.turn) c.pass.view_is ∙ c.requires.free) in
    rest_idle c.draw_next.new.seat.me c.draw_next.ensures.own.1 (ap (λ v. v.stage) e ∙ idle) (ap (λ v. v.told) e ∙ c.pass.invariant.1)
    (subst (λ v. ArePlaces (length v.seen) v.own) (sym e) c.pass.invariant.2)

pub invariant_of-pass-2 : goal.invariant_of-pass-2
invariant_of-pass-2 g c = rest_out c.pass.inside.seat.me c.draw_next.new.seat.me c.wait.new.seat.me c.take_value-value.new.seat.me c.in_ok-place.place _ _ _ c.in_ok-place.ensures.drew.0
    c.in_ok-place.ensures.drew.1 c.wait.ensures.turn c.take_value-value.ensures.own.1 c.take_value-value.ensures.own.2 c.pass.invariant
