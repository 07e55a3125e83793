use Rattle.std.proofs.Common.{◌-◌, ◌≤◌, length}
use Rattle.wf_defs.specs.Condition.{IsSpan}
use Rattle.wf_defs.proofs.condition.closing_span.Given as goal

abbrev pub invariant-loop-n : goal.invariant-loop-n
invariant-loop-n l =
    IsSpan l.text (length l.text - l.n) l.first l.end × (length l.text - l.n ≤ l.first)
