use Rattle.std.proofs.Common.{◌∙◌}
use Rattle.wf_kept.proofs.FlowLemmas.{found_kept}
use Rattle.wf_kept.proofs.IndexLemmas.{flow_placed}
use Rattle.wf_kept.proofs.flows.KeptFlows.flow_of_task.Goals as goal

pub returns-in-Some-clause-flow : goal.returns-in-Some-clause-flow
returns-in-Some-clause-flow c =
    let told = rw c.as_slice.ensures at c.in-Some.ensures in
    rw (← c.self.view_is)
    (rw c.as_slice-in-Some.ensures at c.flow_in.ensures
    ∙ flow_placed _ c.args.task c.in-Some.number _ c.self.invariant.flows_rise (told ∙ c.self.invariant.tells c.args.task))

pub returns-in-Some-clause-itself : goal.returns-in-Some-clause-itself
returns-in-Some-clause-itself c =
    let told = rw c.as_slice.ensures at c.in-Some.ensures in
    rw (← c.self.view_is)
    (found_kept _ c.args.task c.flow_in.result c.self.invariant.flows_rise c.self.invariant.attempts_rise
    (rw c.as_slice-in-Some.ensures at c.flow_in.ensures
    ∙ flow_placed _ c.args.task c.in-Some.number _ c.self.invariant.flows_rise (told ∙ c.self.invariant.tells c.args.task)))
