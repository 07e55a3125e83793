use Rattle.wf_flow.specs.FlowFields.{flow_shown}
use Rattle.wf_flow.proofs.RecordLemmas.{kept_cleared}
use Rattle.wf_flow.proofs.flow.Flow.clear.Goals as goal

pub invariant_of-self : goal.invariant_of-self
invariant_of-self c = rw (c.clear.ensures.items, c.empty_table.ensures) (kept_cleared (flow_shown c.self.inside) c.self.invariant)
