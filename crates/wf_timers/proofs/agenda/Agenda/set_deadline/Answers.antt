use Rattle.std.proofs.Common.{◌∙◌, ap}
use Rattle.wf_timers.specs.Agenda.{deadline_of}
use Rattle.wf_timers.proofs.DateLemmas.{of_with}
use Rattle.wf_timers.proofs.agenda.Agenda.set_deadline.Goals as goal

pub returns-clause-each : goal.returns-clause-each
returns-clause-each c =
    rw (← c.self.view_is)
    (λ n. ap (deadline_of n) c.set.ensures.entries ∙ of_with n c.args.number c.args.deadline c.self.inside.deadlines.entries)
