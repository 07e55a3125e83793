use Rattle.std.proofs.Common.{◌∙◌, sym, ap, subst}
use Rattle.wf_timers.specs.Agenda.{IsLeastDue}
use Rattle.wf_timers.specs.Kept.{least_number, least_passed, lesser_of}
use Rattle.wf_timers.proofs.DueLemmas.{least_due}
use Rattle.wf_timers.proofs.plain.PlainAgenda.least_due.Goals as goal

pub returns : goal.returns
returns c =
    let least =
    c.lesser_passed.ensures
    ∙ ap (λ o. lesser_of o (least_passed c.args.moment c.deref-2.result.now)) (c.least_mark-marked.ensures ∙ ap least_number c.deref.ensures.value)
    ∙ ap (λ ds. lesser_of (least_number c.self.inside.marks.items) (least_passed c.args.moment ds)) c.deref-2.ensures.value in
    record {
      value =
          rw (← c.self.view_is)
          (subst (IsLeastDue c.args.moment (record { marks = c.self.inside.marks.items; deadlines = c.self.inside.deadlines.items; spare = 0 })) (sym least)
          (least_due c.args.moment (record { marks = c.self.inside.marks.items; deadlines = c.self.inside.deadlines.items; spare = 0 }) c.self.invariant));
    }
