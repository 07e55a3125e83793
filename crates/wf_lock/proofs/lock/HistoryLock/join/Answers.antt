use Rattle.std.proofs.Common.{length, sym, ap, subst, ◌∙◌}
use Rattle.wf_lock.specs.Places.{ArePlaces, RisesFrom}
use Rattle.wf_lock.proofs.PlaceLemmas.{merged_apart, length_merged}
use Rattle.wf_lock.proofs.PrefixLemmas.{prefix_length}
use Rattle.wf_lock.proofs.RestLemmas.{rest_idle, places_merged}
use Rattle.wf_lock.proofs.lock.HistoryLock.join.Goals as goal

pub invariant_of-pass : goal.invariant_of-pass
invariant_of-pass g c =
    let old = c.pass.inside.seat.me.0 in let other = c.other.inside.seat.me.0 in let new = c.join.new.seat.me.0 in
    let own = ap (λ v. v.own) c.join.ensures.view in
    rest_idle c.join.new.seat.me c.join.ensures.own.1.0 c.join.ensures.own.1.1 c.join.ensures.own.1.2 (subst (ArePlaces (length new.seen)) (sym own)
    (places_merged (length old.seen) (length other.seen) (length new.seen) old.own other.own c.pass.invariant.2 c.other.invariant.2
    (prefix_length old.seen new.seen c.join.ensures.begins.0) (prefix_length other.seen new.seen c.join.ensures.begins.1) (subst (RisesFrom 0) own c.join.ensures.rises)))

pub returns-clause-own : goal.returns-clause-own
returns-clause-own g c =
    let old = c.pass.inside.seat.me.0 in let other = c.other.inside.seat.me.0 in (
      (invariant_of-pass g c).2,
      rw (← c.pass.view_is, ← c.other.view_is)
          (merged_apart old.own other.own (subst (RisesFrom 0) (ap (λ v. v.own) c.join.ensures.view) c.join.ensures.rises)),
    )

pub returns-clause-count : goal.returns-clause-count
returns-clause-count g c =
    let old = c.pass.inside.seat.me.0 in let other = c.other.inside.seat.me.0 in
    rw (← c.pass.view_is, ← c.other.view_is) (ap (λ v. length v.own) c.join.ensures.view ∙ length_merged old.own other.own)
