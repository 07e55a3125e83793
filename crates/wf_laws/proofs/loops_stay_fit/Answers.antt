use Rattle.wf_laws.proofs.HistoryLemmas.{fit_after}
use Rattle.wf_laws.proofs.LoopLemmas.{step_fit}
use Rattle.wf_laws.proofs.loops_stay_fit.Goals as goal

pub returns-clause-later : goal.returns-clause-later
returns-clause-later c = step_fit

pub returns-clause-always : goal.returns-clause-always
returns-clause-always c = fit_after
