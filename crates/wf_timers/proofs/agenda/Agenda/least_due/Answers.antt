use Rattle.std.proofs.Common.{◌∙◌, sym, ap, subst}
use Rattle.wf_timers.specs.Agenda.{IsLeastDue}
use Rattle.wf_timers.specs.Kept.{least_passed, lesser_of}
use Rattle.wf_timers.proofs.DueLemmas.{least_due, once_rising}
use Rattle.wf_timers.proofs.agenda.Agenda.least_due.Goals as goal

pub returns-clause-value : goal.returns-clause-value
returns-clause-value g c =
    subst (IsLeastDue c.args.moment c.args.self.now)
    (rw (← c.self.view_is) (sym (c.least_passed.ensures.value ∙ ap (λ o. lesser_of o (least_passed c.args.moment c.self.inside.deadlines.entries)) c.first-marked.ensures.value)))
    (least_due c.args.moment c.args.self.now (rw (← c.self.view_is) (once_rising 0 c.self.inside.deadlines.entries c.least_passed.ensures.order)))
