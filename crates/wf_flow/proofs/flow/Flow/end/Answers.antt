use Rattle.wf_flow.specs.FlowFields.{flow_shown}
use Rattle.wf_flow.proofs.RecordLemmas.{kept_ended}
use Rattle.wf_flow.proofs.flow.Flow.end.Goals as goal

pub invariant_of-self : goal.invariant_of-self
invariant_of-self c = rw c.cancel_open.ensures.items (kept_ended c.args.status c.args.moment (flow_shown c.self.inside) c.requires.terminal c.requires.moment c.self.invariant)
