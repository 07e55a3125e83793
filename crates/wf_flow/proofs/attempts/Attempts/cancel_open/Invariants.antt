use Rattle.std.proofs.Common.{◌≡◌, ◌++◌, map, take, drop}
use Rattle.wf_machine.specs.State.{canceled}
use Rattle.wf_flow.proofs.attempts.Attempts.cancel_open.Given as goal

-- those before the index are canceled, and the others are as they were
abbrev pub invariant-loop-attempt : goal.invariant-loop-attempt
invariant-loop-attempt l =
    l.attempt-items ≡ map (canceled l.moment) (take l.attempt-index l.initial.attempt-items) ++ drop l.attempt-index l.initial.attempt-items
