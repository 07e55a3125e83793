use Rattle.std.proofs.Common.{◌≡◌, ◌∙◌, sym, ap, subst}
use Rattle.wf_sorted.specs.Order.{put, without}
use Rattle.wf_timers.specs.Kept.{AreMarks, mark_of, numbers_of}
use Rattle.wf_timers.proofs.MarkLemmas.{marked, rise_marked}
use Rattle.wf_timers.proofs.marks.Marks.mark.Goals as goal

put_again : (c : goal.After-add) → c.add.new.self.entries ≡ put (mark_of c.args.number) (without (mark_of c.args.number) c.self.inside.sorted.entries)
put_again c = c.add.ensures.entries ∙ ap (put (mark_of c.args.number)) c.take_out.ensures.entries

pub invariant_of-self : goal.invariant_of-self
invariant_of-self c = subst (AreMarks 0) (sym (put_again c)) (rise_marked c.args.number c.self.inside.sorted.entries c.self.invariant)

pub returns-clause-numbers : goal.returns-clause-numbers
returns-clause-numbers c =
    rw (← c.self.view_is) (ap numbers_of (put_again c) ∙ marked c.args.number c.self.inside.sorted.entries c.self.invariant)
