use Rattle.std.proofs.Common.{◌+◌, sym, ap, subst, ◌∙◌}
use Rattle.wf_lock.specs.Marks.{last_marked}
use Rattle.wf_lock.specs.Places.{ArePlaces}
use Rattle.wf_lock.proofs.MarkLemmas.{last_marked_snoc}
use Rattle.wf_lock.proofs.RestLemmas.{rest_back, rests_serving, places_snoc}
use Rattle.wf_lock.proofs.turn.Turn.finish.Goals as goal

pub invariant_of-pass : goal.invariant_of-pass
invariant_of-pass g c = rest_back c.pass.inside.seat.me c.put_value.new.seat.me c.args.self.place c.args.entry (ap (λ s. s.turn) c.pass.view_is ∙ c.requires.turn)
    c.put_value.ensures.added.0 c.put_value.ensures.added.1 c.pass.invariant

pub returns-clause-own : goal.returns-clause-own
returns-clause-own g c =
    let old = c.pass.inside.seat.me in let a = c.args.self.place in
    let n = rests_serving old.1 _ a old.0.stage c.pass.invariant.0 (ap (λ s. s.turn) c.pass.view_is ∙ c.requires.turn) in
    subst (λ v. ArePlaces (a + 1) v.own) (sym c.put_value.ensures.added.1) (places_snoc a old.0.own (subst (λ z. ArePlaces z old.0.own) n c.pass.invariant.2))

pub returns-clause-marked : goal.returns-clause-marked
returns-clause-marked g c =
    let old = c.pass.inside.seat.me in let a = c.args.self.place in let x = c.args.entry in let marked = g.T.Stands.marked in
    let n = rests_serving old.1 _ a old.0.stage c.pass.invariant.0 (ap (λ s. s.turn) c.pass.view_is ∙ c.requires.turn) in
    rw (← c.pass.view_is) (ap (λ v. last_marked marked v.seen) c.put_value.ensures.added.1 ∙ last_marked_snoc marked old.0.seen x a n)
