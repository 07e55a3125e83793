use Rattle.wf_sorted.proofs.PutLemmas as lemma
use Rattle.wf_sorted.proofs.laws.puts_commute.Goals as goal

pub returns : goal.returns
returns c = λ a b entries. lemma.puts_commute a b entries
