use Rattle.wf_tree.proofs.LawLemmas.{list_done}
use Rattle.wf_tree.proofs.laws.a_list_is_done_with_its_nodes.Goals as goal

pub returns : goal.returns
returns c = list_done
