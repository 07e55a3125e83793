use Rattle.std.proofs.Common.{ap, ◌∙◌}
use Rattle.wf_routes.proofs.Allowed.{allowed}
use Rattle.wf_routes.proofs.table.Path.allow.Goals as goal

pub returns : goal.returns
returns c = ap (λ row. row.allow) c.row.ensures ∙ allowed c.args.self.now
