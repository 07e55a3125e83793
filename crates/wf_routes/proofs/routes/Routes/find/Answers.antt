use Rattle.wf_routes.proofs.Found.{path-at, path-missing}
use Rattle.wf_routes.proofs.routes.Routes.find.Goals as goal

pub returns-in-Ok : goal.returns-in-Ok
returns-in-Ok c = path-at _ c.args.text.now _ c.args.self.now.made c.type_inv.text c.in-Ok.ensures.found

pub returns-in-Err : goal.returns-in-Err
returns-in-Err c = path-missing _ c.args.text.now c.args.self.now.made c.type_inv.text c.in-Err.ensures.missing
