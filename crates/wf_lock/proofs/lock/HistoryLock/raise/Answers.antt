use Rattle.std.proofs.Common.{length, sym, subst}
use Rattle.wf_lock.specs.Places.{ArePlaces}
use Rattle.wf_lock.proofs.RestLemmas.{rest_idle}
use Rattle.wf_lock.proofs.lock.HistoryLock.raise.Goals as goal

pub invariant_of-pass : goal.invariant_of-pass
invariant_of-pass g c = let own = c.raise.ensures.own.1 in
    rest_idle c.raise.new.seat.me own.0 own.1 own.2 (subst (λ v. ArePlaces (length v.seen) v.own) (sym c.raise.ensures.raised) c.pass.invariant.2)
