use Rattle.std.proofs.Common.{◌∙◌, sym, ap, Some}
use Rattle.wf_core.proofs.BesideLemmas.{kept_ended, kept_open}
use Rattle.wf_kept.specs.Flows.{kept}
use Rattle.wf_core.proofs.beside.KeptChildrenChildren.ended.Goals as goal

pub returns-then-is_ended_child : goal.returns-then-is_ended_child
returns-then-is_ended_child c =
    let table = c.args.self.now.flows.now in
    ap Some c.shown.ensures
    ∙ sym
    (kept_ended c.args.self.now.parent c.args.number table.next_flow table.kept (kept c.in_ok-kept.kept.now) c.as_slice-rising.ensures.rising (sym c.in_ok-kept.ensures)
    (sym c.is_ended_child.ensures ∙ c.if-is_ended_child.true))

pub returns-else-is_ended_child : goal.returns-else-is_ended_child
returns-else-is_ended_child c =
    let table = c.args.self.now.flows.now in
    sym
    (kept_open c.args.self.now.parent c.args.number table.next_flow table.kept (kept c.in_ok-kept.kept.now) c.as_slice-rising.ensures.rising (sym c.in_ok-kept.ensures)
    (sym c.is_ended_child.ensures ∙ c.if-is_ended_child.false))
