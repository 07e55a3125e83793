use Rattle.std.proofs.Common.{ap, ◌∙◌, set, string_bytes}
use Rattle.std.specs.List.{insert}
use Rattle.wf_keeper.proofs.RowLemmas.{inserted, replaced}
use Rattle.wf_keeper.proofs.row.put_row.Goals as goal

pub returns-in-Ok-clause-ok : goal.returns-in-Ok-clause-ok
returns-in-Ok-clause-ok c =
    (replaced c.args.key c.args.rows.now.items c.deref.result.now _ c.in-Ok.place c.deref.ensures.value c.requires
    (string_bytes c.args.body) c.in-Ok.ensures (ap (set c.args.rows.now.items c.in-Ok.place) c.new.ensures)).0

pub returns-in-Ok-clause-order : goal.returns-in-Ok-clause-order
returns-in-Ok-clause-order c =
    (replaced c.args.key c.args.rows.now.items c.deref.result.now _ c.in-Ok.place c.deref.ensures.value c.requires
    (string_bytes c.args.body) c.in-Ok.ensures (ap (set c.args.rows.now.items c.in-Ok.place) c.new.ensures)).1

pub returns-in_ok-insert-in-Err-clause-ok : goal.returns-in_ok-insert-in-Err-clause-ok
returns-in_ok-insert-in-Err-clause-ok c =
    (inserted c.args.key c.args.rows.now.items c.deref.result.now _ c.in-Err.place c.deref.ensures.value c.requires
    (string_bytes c.args.body) c.in-Err.ensures
    (c.in_ok-insert-in-Err.ensures.items ∙ ap (insert c.args.rows.now.items c.in-Err.place) c.new-in-Err.ensures)).0

pub returns-in_ok-insert-in-Err-clause-order : goal.returns-in_ok-insert-in-Err-clause-order
returns-in_ok-insert-in-Err-clause-order c =
    (inserted c.args.key c.args.rows.now.items c.deref.result.now _ c.in-Err.place c.deref.ensures.value c.requires
    (string_bytes c.args.body) c.in-Err.ensures
    (c.in_ok-insert-in-Err.ensures.items ∙ ap (insert c.args.rows.now.items c.in-Err.place) c.new-in-Err.ensures)).1
