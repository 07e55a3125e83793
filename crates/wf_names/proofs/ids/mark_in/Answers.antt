use Rattle.std.proofs.Common.{◌∙◌}
use Rattle.wf_names.proofs.IdLemmas.{mark_in-places}
use Rattle.wf_names.proofs.ids.mark_in.Goals as goal

pub returns : goal.returns
returns c = c.from_be_bytes.ensures ∙ mark_in-places c.args.octets.now
