use Rattle.std.proofs.Common.{◌∙◌, ap}
use Rattle.wf_timers.specs.Agenda.{is_marked}
use Rattle.wf_timers.proofs.MarkLemmas.{marked_without}
use Rattle.wf_timers.proofs.agenda.Agenda.unmark.Goals as goal

pub returns-clause-marked : goal.returns-clause-marked
returns-clause-marked c =
    rw (← c.self.view_is) (λ n. ap (is_marked n) c.unmark.ensures.numbers ∙ marked_without n c.args.number c.self.inside.marks.numbers)
