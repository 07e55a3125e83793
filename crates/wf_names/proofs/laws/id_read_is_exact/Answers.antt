use Rattle.wf_names.proofs.IdLemmas.{id_read-exact}
use Rattle.wf_names.proofs.laws.id_read_is_exact.Goals as goal

pub returns : goal.returns
returns c = id_read-exact c.args.text.now c.args.mark c.args.kind c.args.number
