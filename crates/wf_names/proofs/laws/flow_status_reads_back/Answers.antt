use Rattle.wf_names.proofs.StatusLemmas.{flow_status_named-flow_status_text}
use Rattle.wf_names.proofs.laws.flow_status_reads_back.Goals as goal

pub returns : goal.returns
returns c = flow_status_named-flow_status_text c.args.status
