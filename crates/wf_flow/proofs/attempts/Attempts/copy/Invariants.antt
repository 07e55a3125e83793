use Rattle.std.proofs.Common.{◌≡◌, take}
use Rattle.wf_flow.proofs.attempts.Attempts.copy.Given as goal

abbrev pub invariant-loop-attempt : goal.invariant-loop-attempt
invariant-loop-attempt l = l.items.items ≡ take l.attempt-index l.attempt-items
