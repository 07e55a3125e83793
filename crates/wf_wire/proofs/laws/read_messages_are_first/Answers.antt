use Rattle.wf_wire.proofs.ItemsLemmas.{read_first}
use Rattle.wf_wire.proofs.laws.read_messages_are_first.Goals as goal

pub returns : goal.returns
returns c = read_first
