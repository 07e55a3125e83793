use Rattle.wf_names.proofs.IdLemmas.{id_read-id_text}
use Rattle.wf_names.proofs.laws.id_reads_back.Goals as goal

pub returns : goal.returns
returns c = id_read-id_text c.args.mark c.args.kind c.args.number c.ranges.mark.fits c.requires
