use Rattle.std.proofs.Common.{◌≡◌, ◌+◌}
use Rattle.wf_timers.proofs.LeastLemmas.{IsLeast}
use Rattle.wf_timers.proofs.deadlines.Deadlines.least_passed.Given as goal

abbrev pub invariant-loop-place : goal.invariant-loop-place
invariant-loop-place g l = record { least : IsLeast l.fn.first l.moment l.self-inside.by_moment.entries l.place l.least; cost : l.steps ≡ l.initial.steps + l.place }
