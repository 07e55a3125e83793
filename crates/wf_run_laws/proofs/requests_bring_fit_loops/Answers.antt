use Rattle.wf_run_laws.proofs.FitLemmas.{request_brings, requests_fit}
use Rattle.wf_run_laws.proofs.requests_bring_fit_loops.Goals as goal

pub returns-clause-one : goal.returns-clause-one
returns-clause-one c = request_brings

pub returns-clause-always : goal.returns-clause-always
returns-clause-always c = requests_fit
