use Rattle.std.proofs.Common.{rules, filter, ap, ◌∙◌}
use Rattle.std.proofs.lemmas.Fn.{filter_same}
use Rattle.wf_kept.specs.declared.index.Placed.{Placed}
use Rattle.wf_kept.specs.Room.{Room}
use Rattle.wf_kept.specs.Index.{is_elsewhere}
use Rattle.wf_kept.proofs.index.drop_rows.Goals as goal

pub returns-clause-items : goal.returns-clause-items
returns-clause-items c =
    filter_same _ (is_elsewhere c.args.flow) _ (λ x b f' k. search rules) _ _ c.retain.ensures.filtered
    ∙ ap (λ (r : Room Placed). filter (is_elsewhere c.args.flow) r.items) c.index.view_is
