use Rattle.wf_time.proofs.NumberLemmas.{too_great}
use Rattle.wf_time.proofs.durations.number_within.Goals as goal

pub returns-then-next-gt-LONGEST : goal.returns-then-next-gt-LONGEST
returns-then-next-gt-LONGEST c = too_great c.loop-digit.value c.loop-digit.digit-index c.args.digits.now c.loop-digit.invariant.0 c.loop-digit-test.true c.loop-digit.invariant.2 c.if-next-gt-LONGEST.true
