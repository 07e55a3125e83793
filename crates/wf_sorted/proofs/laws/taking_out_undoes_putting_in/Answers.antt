use Rattle.wf_sorted.proofs.PutLemmas.{without_put}
use Rattle.wf_sorted.proofs.laws.taking_out_undoes_putting_in.Goals as goal

pub returns : goal.returns
returns c = λ entry entries. without_put entry entries
