use Rattle.std.proofs.Common.{◌≡◌, ◌++◌, ◌+◌, ◌≤◌, drop, length}
use Rattle.wf_kept.specs.Index.{rows_of}
use Rattle.wf_kept.proofs.index.add_rows.Given as goal

abbrev pub invariant-loop-attempt : goal.invariant-loop-attempt
invariant-loop-attempt l = record {
  items : l.index.items ++ rows_of l.flow (drop l.attempt-index l.attempt-items) ≡ l.initial.index.items ++ rows_of l.flow l.attempt-items;
  enough : length l.attempt-items ≤ l.attempt-index + l.index.spare;
  room : l.initial.index.spare ≤ l.attempt-index + l.index.spare;
}
