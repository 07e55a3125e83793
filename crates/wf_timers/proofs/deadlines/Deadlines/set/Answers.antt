use Rattle.std.proofs.Common.{◌∙◌, ap}
use Rattle.wf_timers.specs.Agenda.{deadline_of}
use Rattle.wf_timers.proofs.DateLemmas.{gone_without}
use Rattle.wf_timers.proofs.deadlines.Deadlines.set.Goals as goal

pub add-requires-clause-new : goal.add-requires-clause-new
add-requires-clause-new c = ap (deadline_of c.args.number) c.forget.ensures.entries ∙ gone_without c.args.number c.args.self.now.entries
