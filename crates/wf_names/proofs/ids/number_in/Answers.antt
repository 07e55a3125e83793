use Rattle.std.proofs.Common.{◌∙◌}
use Rattle.wf_names.proofs.IdLemmas.{number_in-places}
use Rattle.wf_names.proofs.ids.number_in.Goals as goal

pub returns : goal.returns
returns c = c.from_be_bytes.ensures ∙ number_in-places c.args.octets.now
