use Rattle.std.proofs.Common.{ap, ◌∙◌}
use Rattle.wf_kept.specs.Flows.{FlowTable, all_kept, flow_removed}
use Rattle.wf_kept.proofs.RemovalLemmas.{left_removed, tied_left}
use Rattle.wf_kept.proofs.flows.KeptFlows.remove.Goals as goal

pub invariant_of-self : goal.invariant_of-self
invariant_of-self c =
    let there = rw c.as_slice.ensures at c.in-Some.ensures.some in
    rw c.drop_rows.ensures.items
    (tied_left c.args.revision c.args.number (all_kept c.self.inside.flows.items) (all_kept c.take_out.new.flows.items) c.self.inside.index.items _ _ c.in-Some.place c.self.invariant there c.take_out.ensures.items)

pub returns-in-Some-clause-kept : goal.returns-in-Some-clause-kept
returns-in-Some-clause-kept c =
    let there = rw c.as_slice.ensures at c.in-Some.ensures.some in
    left_removed c.args.revision c.args.number (all_kept c.self.inside.flows.items) (all_kept c.take_out.new.flows.items) c.self.inside.index.items _ _ c.in-Some.place c.self.invariant there c.take_out.ensures.items
    ∙ ap (λ (t : FlowTable). flow_removed c.args.revision c.args.number t.kept) c.self.view_is
