use Rattle.std.proofs.Common.{◌≡◌, take}
use Rattle.std.specs.Option.{option_copied}
use Rattle.std.specs.Str.Parse.{digits_value}
use Rattle.wf_flow.proofs.LastLemmas.{last_among}
use Rattle.wf_flow.proofs.flow.Flow.attempt_in_turn.Given as goal

abbrev pub invariant-loop-attempt : goal.invariant-loop-attempt
invariant-loop-attempt l = option_copied l.last ≡ last_among l.node (digits_value 10 l.digits) (take l.attempt-index l.attempt-items)
