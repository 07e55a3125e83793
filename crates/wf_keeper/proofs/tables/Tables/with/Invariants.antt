use Rattle.std.proofs.Common.{◌≡◌, drop}
use Rattle.wf_keeper.specs.Rows.{applied}
use Rattle.wf_keeper.proofs.tables.Tables.with.Given as goal

abbrev pub invariant-loop-change : goal.invariant-loop-change
invariant-loop-change l = applied (drop l.change-index l.change-items) l.made ≡ applied l.fn.batch.changes l.fn.self
