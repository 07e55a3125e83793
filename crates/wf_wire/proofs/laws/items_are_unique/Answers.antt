use Rattle.wf_wire.proofs.ItemsLemmas.{unique}
use Rattle.wf_wire.proofs.laws.items_are_unique.Goals as goal

pub returns : goal.returns
returns c = unique
