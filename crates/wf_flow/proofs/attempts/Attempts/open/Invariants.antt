use Rattle.std.proofs.Common.{◌≡◌, take}
use Rattle.wf_flow.specs.Changes.{open_numbers}
use Rattle.wf_flow.proofs.attempts.Attempts.open.Given as goal

abbrev pub invariant-loop-attempt : goal.invariant-loop-attempt
invariant-loop-attempt l = l.numbers ≡ open_numbers (take l.attempt-index l.attempt-items)
