use Rattle.wf_rules.proofs.ViewLemmas.{plan_same}
use Rattle.wf_rules.proofs.laws.plans_read_what_is_named.Goals as goal

pub returns : goal.returns
returns c = plan_same
