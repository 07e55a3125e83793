use Rattle.std.proofs.Common.{length}
use Rattle.wf_time.specs.Durations.{words}
use Rattle.wf_time.proofs.SumLemmas.{IsSum}
use Rattle.wf_time.proofs.durations.sum_of_groups.Given as goal

abbrev pub invariant-loop-number : goal.invariant-loop-number
invariant-loop-number l = IsSum (words l.text) (words l.rest) l.sum

abbrev pub decreases-loop-number : goal.decreases-loop-number
decreases-loop-number l = length l.rest
