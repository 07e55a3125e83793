use Rattle.std.proofs.Common.{◌≡◌, drop}
use Rattle.wf_routes.specs.Made.{rows_made, router_rows}
use Rattle.wf_routes.specs.Table.{paths}
use Rattle.wf_routes.proofs.routes.router_made.Given as goal

-- the paths still to be put in make the rows whole
abbrev pub invariant-loop-path : goal.invariant-loop-path
invariant-loop-path l = rows_made (drop l.path-index paths) l.router ≡ router_rows
