use Rattle.wf_laws.proofs.SettledLemmas.{settled_once}
use Rattle.wf_laws.proofs.decided_once.Goals as goal

pub returns : goal.returns
returns c = settled_once
