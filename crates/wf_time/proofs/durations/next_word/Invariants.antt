use Rattle.std.proofs.Common.{◌≡◌, ◌≤◌, length}
use Rattle.wf_time.specs.Durations.{words}
use Rattle.wf_time.proofs.durations.next_word.Given as goal

abbrev pub invariant-loop-run : goal.invariant-loop-run
invariant-loop-run l = (words l.text ≡ words l.rest) × (length l.rest ≤ length l.text)

abbrev pub decreases-loop-run : goal.decreases-loop-run
decreases-loop-run l = length l.rest
