use Rattle.std.proofs.Common.{sym}
use Rattle.wf_keeper.proofs.RowLemmas.{removed, without_gap}
use Rattle.wf_keeper.proofs.row.remove_row.Goals as goal

pub returns-in-Ok-clause-rows : goal.returns-in-Ok-clause-rows
returns-in-Ok-clause-rows c =
    (removed c.args.key.now c.args.rows.now.items c.deref.result.now c.remove.new.self.items c.in-Ok.place c.deref.ensures.value c.requires
    c.in-Ok.ensures c.remove.ensures.items).0

pub returns-in-Ok-clause-order : goal.returns-in-Ok-clause-order
returns-in-Ok-clause-order c =
    (removed c.args.key.now c.args.rows.now.items c.deref.result.now c.remove.new.self.items c.in-Ok.place c.deref.ensures.value c.requires
    c.in-Ok.ensures c.remove.ensures.items).1

pub returns-in_default-clause-rows : goal.returns-in_default-clause-rows
returns-in_default-clause-rows c =
    sym (without_gap c.args.key.now c.args.rows.now.items c.in_default.field-0 (rw c.deref.ensures.value at c.in_default.ensures))
