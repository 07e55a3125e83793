use Rattle.wf_ops.proofs.LastLemmas.{last_is_greatest}
use Rattle.wf_ops.proofs.laws.the_last_has_the_greatest_number.Goals as goal

pub returns : goal.returns
returns c = last_is_greatest
