use Rattle.std.proofs.Common.{refl, ap, ◌∙◌}
use Rattle.wf_routes.specs.Made.{rows_made, router_rows}
use Rattle.wf_routes.specs.Table.{paths}
use Rattle.wf_routes.proofs.MadeLemmas.{none_yet, one_more}
use Rattle.wf_routes.proofs.routes.router_made.Goals as goal

pub loop-path-init : goal.loop-path-init
loop-path-init c = ap (rows_made paths) c.new-router.ensures ∙ none_yet

pub loop-path-preserved : goal.loop-path-preserved
loop-path-preserved c =
    one_more paths router_rows c.loop-path.path-index _ _ c.loop-path.router c.put.new.router c.loop-path-test.true refl c.in_ok-put.ensures c.loop-path.invariant
