use Rattle.wf_tree.proofs.LawLemmas.{first_asks}
use Rattle.wf_tree.proofs.laws.the_first_open_node_asks.Goals as goal

pub returns : goal.returns
returns c = first_asks
