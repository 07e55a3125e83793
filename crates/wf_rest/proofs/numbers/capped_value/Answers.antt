use Rattle.wf_doc.proofs.DigitLemmas.{capped_more}
use Rattle.wf_rest.proofs.numbers.capped_value.Goals as goal

pub loop-digit-preserved : goal.loop-digit-preserved
loop-digit-preserved c = capped_more c.args.digits.now c.loop-digit.digit-index c.loop-digit.value c.saturating_mul.result _ c.requires c.loop-digit-test.true c.loop-digit.invariant c.saturating_mul.ensures c.saturating_add-value.ensures
