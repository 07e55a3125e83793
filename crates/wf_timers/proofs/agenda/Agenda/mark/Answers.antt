use Rattle.std.proofs.Common.{◌∙◌, ap}
use Rattle.wf_timers.specs.Agenda.{is_marked}
use Rattle.wf_timers.proofs.MarkLemmas.{marked_with}
use Rattle.wf_timers.proofs.agenda.Agenda.mark.Goals as goal

pub returns-clause-marked : goal.returns-clause-marked
returns-clause-marked c =
    rw (← c.self.view_is) (λ n. ap (is_marked n) c.mark.ensures.numbers ∙ marked_with n c.args.number c.self.inside.marks.numbers)
