use Rattle.wf_flow.specs.FlowFields.{flow_shown}
use Rattle.wf_flow.proofs.RecordLemmas.{kept_reopened}
use Rattle.wf_flow.proofs.flow.Flow.reopen.Goals as goal

pub invariant_of-self : goal.invariant_of-self
invariant_of-self c = rw (c.empty_text.ensures, c.empty_table.ensures) (kept_reopened c.args.moment (flow_shown c.self.inside) c.requires.moment c.self.invariant)
