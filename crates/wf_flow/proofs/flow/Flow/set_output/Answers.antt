use Rattle.wf_flow.specs.FlowFields.{flow_shown}
use Rattle.wf_flow.proofs.RecordLemmas.{kept_other}
use Rattle.wf_flow.proofs.flow.Flow.set_output.Goals as goal

pub invariant_of-self : goal.invariant_of-self
invariant_of-self c = kept_other (flow_shown c.self.inside) c.self.inside.input c.self.inside.variables c.args.value c.self.inside.reason c.self.inside.noted c.self.invariant
