use Rattle.wf_rules.proofs.CountLemmas.{chosen_numbers}
use Rattle.wf_rules.proofs.laws.numbers_last.Goals as goal

pub returns : goal.returns
returns c = chosen_numbers
