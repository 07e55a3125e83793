use Rattle.std.proofs.Common.{◌∙◌, sym, ap, subst}
use Rattle.wf_timers.specs.Kept.{AreMarks, numbers_of}
use Rattle.wf_timers.proofs.MarkLemmas.{rise_without, unmarked}
use Rattle.wf_timers.proofs.marks.Marks.unmark.Goals as goal

pub invariant_of-self : goal.invariant_of-self
invariant_of-self c = subst (AreMarks 0) (sym c.take_out.ensures.entries) (rise_without 0 c.args.number c.self.inside.sorted.entries c.self.invariant)

pub returns-clause-numbers : goal.returns-clause-numbers
returns-clause-numbers c =
    rw (← c.self.view_is) (ap numbers_of c.take_out.ensures.entries ∙ unmarked 0 c.args.number c.self.inside.sorted.entries c.self.invariant)
