use Rattle.std.proofs.Common.{◌≡◌, drop}
use Rattle.wf_timers.specs.Kept.{least_number, lesser_of}
use Rattle.wf_timers.proofs.plain.least_mark.Given as goal

-- the least so far and the marks that are left
abbrev pub invariant-loop-mark : goal.invariant-loop-mark
invariant-loop-mark l = lesser_of l.least (least_number (drop l.mark-index l.marks)) ≡ least_number l.marks
