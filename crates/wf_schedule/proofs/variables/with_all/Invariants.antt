use Rattle.std.proofs.Common.{◌≡◌, drop}
use Rattle.wf_rules.specs.Outputs.{with_all}
use Rattle.wf_schedule.proofs.variables.with_all.Given as goal

-- what is left of the entries leads to what the whole makes
abbrev pub invariant-loop-entry : goal.invariant-loop-entry
invariant-loop-entry l = with_all (drop l.entry-index l.entries) l.made ≡ with_all l.entries l.fn.table
