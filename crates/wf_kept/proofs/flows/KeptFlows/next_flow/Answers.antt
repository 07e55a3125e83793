use Rattle.wf_kept.specs.Flows.{flow_number}
use Rattle.wf_kept.proofs.SearchLemmas.{rises_range}
use Rattle.wf_kept.proofs.flows.KeptFlows.next_flow.Goals as goal

pub returns-clause-range : goal.returns-clause-range
returns-clause-range c = rw (← c.self.view_is) (rises_range flow_number _ _ _ c.self.invariant.flows_rise, c.self.invariant.flow_numbers)
