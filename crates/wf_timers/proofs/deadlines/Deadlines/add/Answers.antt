use Rattle.std.proofs.Common.{◌≡◌, ◌∙◌, sym, ap, subst, arith}
use Rattle.wf_sorted.specs.Order.{put}
use Rattle.wf_timers.specs.Agenda.{put_deadline}
use Rattle.wf_timers.specs.Kept.{RiseFrom, ordered}
use Rattle.wf_timers.proofs.DateLemmas.{is_place, put_at, put_by_moment, rise_put}
use Rattle.wf_timers.proofs.deadlines.Deadlines.add.Goals as goal

inserted : (c : goal.After-add) → c.insert_at.new.entries.items ≡ put_deadline c.args.entry c.self.inside.by_number.items
inserted c =
    let place = rw c.deref.ensures.value at (is_place c.args.entry.number c.deref.result.now c.place_of-place.result c.place_of-place.ensures.bound c.place_of-place.ensures.parted) in
    c.insert_at.ensures.items ∙ put_at c.args.entry c.self.inside.by_number.items c.place_of-place.result place

pub invariant_of-self : goal.invariant_of-self
invariant_of-self c =
    let none = rw (← c.self.view_is) at c.requires.new in (
      subst (RiseFrom 0) (sym (inserted c)) (rise_put 0 c.args.entry c.self.inside.by_number.items c.self.invariant.0 (omega arith) none),
      c.add.ensures.entries ∙ ap (put c.args.entry) c.self.invariant.1 ∙ sym (ap ordered (inserted c) ∙ put_by_moment c.args.entry c.self.inside.by_number.items),
    )

pub returns-clause-entries : goal.returns-clause-entries
returns-clause-entries c = rw (← c.self.view_is) (inserted c)
