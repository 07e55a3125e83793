use Rattle.std.proofs.Common.{◌∙◌, sym, ap, arith}
use Rattle.wf_machine.specs.Operators.{is_from}
use Rattle.wf_ops.proofs.PlaceLemmas.{judged_off, judged_on, judged_flow}
use Rattle.wf_ops.proofs.rerunning.supersede_from.Goals as goal
use Rattle.wf_ops.proofs.rerunning.supersede_from.Goals.{then-is_from_at, else-is_from_at}

pub loop-place-preserved : goal.loop-place-preserved
loop-place-preserved c = elim c.if-is_from_at.branch [
  | then-is_from_at w ↦ record {
    flow = judged_on (is_from c.args.node) c.loop-place.place c.args.flow.now.flow c.loop-place.flow.flow c.if-is_from_at.flow.flow c.loop-place.invariant.flow
        (sym c.is_from_at.ensures ∙ w.if-is_from_at.true) (ap (λ z. z.flow) w.flow-is ∙ w.supersede_at.ensures.flow);
    room = ap (λ z. z.spare) w.flow-is ∙ (w.supersede_at.ensures.room ∙ c.loop-place.invariant.room);
  }
  | else-is_from_at w ↦ record {
    flow = ap (λ z. z.flow) w.flow-is ∙ judged_off (is_from c.args.node) c.loop-place.place c.args.flow.now.flow c.loop-place.flow.flow c.loop-place.invariant.flow
        (sym c.is_from_at.ensures ∙ w.if-is_from_at.false);
    room = ap (λ z. z.spare) w.flow-is ∙ c.loop-place.invariant.room;
  }
]

pub returns-clause-flow : goal.returns-clause-flow
returns-clause-flow c =
    judged_flow (is_from c.args.node) c.loop-place.place c.args.flow.now.flow c.loop-place.flow.flow c.loop-place.invariant.flow
    (omega (arith, c.loop-place-test.false, c.len-place-end.ensures))
