use Rattle.std.proofs.Common.{◌∙◌, ap, sym, Some}
use Rattle.wf_keeper.specs.declared.row.Row.{Row}
use Rattle.wf_keeper.proofs.RowLemmas.{get_at, get_gap}
use Rattle.wf_keeper.proofs.row.body_at.Goals as goal

pub returns-in-Ok : goal.returns-in-Ok
returns-in-Ok c =
    ap Some (c.body.ensures.body ∙ ap (λ (r : Row). r.body) c.index-rows-place.is)
    ∙ sym (get_at c.args.key.now c.args.rows.now c.in-Ok.place c.index-rows-place.result c.requires c.in-Ok.ensures)

pub returns-in-Err : goal.returns-in-Err
returns-in-Err c = sym (get_gap c.args.key.now c.args.rows.now c.in-Err._place c.in-Err.ensures)
