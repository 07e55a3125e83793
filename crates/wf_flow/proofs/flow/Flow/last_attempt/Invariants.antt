use Rattle.std.proofs.Common.{◌≡◌, take}
use Rattle.std.specs.Option.{option_copied}
use Rattle.wf_flow.proofs.LastLemmas.{last_among}
use Rattle.wf_flow.proofs.flow.Flow.last_attempt.Given as goal

abbrev pub invariant-loop-attempt : goal.invariant-loop-attempt
invariant-loop-attempt l = option_copied l.last ≡ last_among l.node l.iteration (take l.attempt-index l.attempt-items)
