use Rattle.wf_laws.proofs.HandLemmas.{handed_again}
use Rattle.wf_laws.proofs.handed_once.Goals as goal

pub returns : goal.returns
returns c = handed_again
