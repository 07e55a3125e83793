use Rattle.wf_flow.specs.FlowFields.{flow_shown}
use Rattle.wf_flow.proofs.RecordLemmas.{kept_started}
use Rattle.wf_flow.proofs.flow.Flow.set_started.Goals as goal

pub invariant_of-self : goal.invariant_of-self
invariant_of-self c = kept_started (flow_shown c.self.inside) c.args.value c.requires c.self.invariant
