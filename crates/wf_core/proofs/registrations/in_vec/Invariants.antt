use Rattle.std.proofs.Common.{◌≡◌, ◌++◌, length, reverse}
use Rattle.wf_core.proofs.registrations.in_vec.Given as goal

-- those that were taken, the last first, and then those that are left from the last
abbrev pub invariant-loop-def : goal.invariant-loop-def
invariant-loop-def g l = l.list.items ++ reverse l.defs ≡ reverse l.initial.defs

abbrev pub decreases-loop-def : goal.decreases-loop-def
decreases-loop-def g l = length l.defs
