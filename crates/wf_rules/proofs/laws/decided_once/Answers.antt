use Rattle.wf_rules.proofs.EndLemmas.{decided_settled, decided_again}
use Rattle.wf_rules.proofs.laws.decided_once.Goals as goal

pub returns : goal.returns
returns c = record { settled = decided_settled; again = decided_again }
