use Rattle.std.proofs.Common.{◌≡◌, drop}
use Rattle.wf_timers.specs.Kept.{least_passed, lesser_of}
use Rattle.wf_timers.proofs.plain.lesser_passed.Given as goal

-- the least so far and the deadlines that are left
abbrev pub invariant-loop-entry : goal.invariant-loop-entry
invariant-loop-entry l = lesser_of l.least (least_passed l.moment (drop l.entry-index l.deadlines)) ≡ lesser_of l.fn.first (least_passed l.moment l.deadlines)
