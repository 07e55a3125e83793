use Rattle.wf_laws.proofs.ValidLemmas.{valid_fits}
use Rattle.wf_laws.proofs.valid_loops_fit.Goals as goal

pub returns : goal.returns
returns c = valid_fits
