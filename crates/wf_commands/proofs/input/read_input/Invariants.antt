use Rattle.std.proofs.Common.{[], suc, ◌-◌, ◌≤◌, length}
use Rattle.wf_commands.specs.Inputs.{Moved}
use Rattle.wf_commands.proofs.input.read_input.Given as goal

abbrev pub invariant-reads : goal.invariant-reads
invariant-reads g l = record {
  moved : Moved [] (g.R.Source.left l.fn.source) l.held.items (g.R.Source.left l.source);
  within : length l.held.items ≤ suc l.most;
  count : g.R.Source.faults l.fn.source ≤ g.R.Source.faults l.source;
}

abbrev pub decreases-reads : goal.decreases-reads
decreases-reads g l = suc l.most - length l.held.items
