use Rattle.wf_rules.proofs.WantLemmas.{decided_kept}
use Rattle.wf_rules.proofs.laws.decided_kept.Goals as goal

pub returns : goal.returns
returns c = decided_kept
