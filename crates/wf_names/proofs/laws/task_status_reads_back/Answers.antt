use Rattle.wf_names.proofs.StatusLemmas.{task_status_named-task_status_text}
use Rattle.wf_names.proofs.laws.task_status_reads_back.Goals as goal

pub returns : goal.returns
returns c = task_status_named-task_status_text c.args.status
