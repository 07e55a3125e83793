use Rattle.wf_routes.proofs.Allowed.{rising}
use Rattle.wf_routes.proofs.laws.methods_rise.Goals as goal

pub returns : goal.returns
returns c = rising c.args.path
