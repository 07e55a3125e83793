use Rattle.wf_flow.specs.FlowFields.{flow_shown}
use Rattle.wf_flow.proofs.RecordLemmas.{kept_status}
use Rattle.wf_flow.proofs.flow.Flow.set_status.Goals as goal

pub invariant_of-self : goal.invariant_of-self
invariant_of-self c =
    kept_status (flow_shown c.self.inside) c.args.value (rw (← c.self.view_is) at c.requires) c.self.invariant
