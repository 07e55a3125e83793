use Rattle.wf_laws.proofs.HistoryLemmas.{later_after}
use Rattle.wf_laws.proofs.numbers_are_given_once.Goals as goal

pub returns : goal.returns
returns c = later_after
