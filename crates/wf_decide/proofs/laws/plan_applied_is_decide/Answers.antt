use Rattle.wf_decide.proofs.ViewLemmas.{plan_applied}
use Rattle.wf_decide.proofs.laws.plan_applied_is_decide.Goals as goal

pub returns : goal.returns
returns c = plan_applied c.plans_hold.ensures.at_once c.plans_read_what_is_named.ensures
