use Rattle.std.proofs.Common.{◌≡◌, Some, ap, subst, sym, ◌∙◌}
use Rattle.wf_machine.specs.State.{RisingTo}
use Rattle.wf_machine.specs.Flows.{flow_numbered}
use Rattle.wf_kept.specs.Flows.{FlowTable, all_kept}
use Rattle.wf_kept.proofs.RevisedLemmas.{tied_changed}
use Rattle.wf_kept.proofs.RemovalLemmas.{tied_anew}
use Rattle.wf_kept.proofs.flows.KeptFlows.replace_anew.Goals as goal

pub invariant_of-self : goal.invariant_of-self
invariant_of-self c =
    let flow = c.args.flow.flow in
    let old = c.requires.anew.old in
    let flows = all_kept c.self.inside.flows.items in
    let found : flow_numbered flow.number flows ≡ Some old = ap (λ (t : FlowTable). flow_numbered flow.number t.kept) c.self.view_is ∙ c.requires.anew.found in
    let rising : RisingTo c.self.inside.next_task c.args.next_task flow.attempts =
    subst (λ (t : FlowTable). RisingTo t.next_task c.args.next_task flow.attempts) (sym c.self.view_is) c.requires.anew.rising in
    let tied = tied_anew (record { flow = flow; revision = c.args.revision }) old flows c.self.inside.index.items c.self.inside.next_flow c.self.inside.next_task c.args.next_task
    c.self.invariant found rising c.requires.limit in
    rw (c.put.ensures.items, c.add_rows.ensures.items, c.drop_rows.ensures.items, c.attempts.ensures.value, c.number-in-Some.ensures, c.number-in-Some-2.ensures)
    (tied_changed c.args.revision old flow flows _ c.self.inside.next_flow c.args.next_task found tied)
