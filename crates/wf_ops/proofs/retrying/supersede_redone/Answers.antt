use Rattle.std.proofs.Common.{◌≡◌, ◌∙◌, Bool, sym, ap, arith}
use Rattle.wf_machine.specs.Operators.{is_redone}
use Rattle.wf_ops.specs.Places.{passes_at}
use Rattle.wf_ops.proofs.PlaceLemmas.{judged_off, judged_on, judged_flow}
use Rattle.wf_ops.proofs.retrying.supersede_redone.Goals as goal
use Rattle.wf_ops.proofs.retrying.supersede_redone.Goals.{then-is_redone_at, else-is_redone_at}

-- the definition is the one that the flow had before
told : (c : goal.Joined-is_redone_at) (passes : Bool) → c.is_redone_at.result ≡ passes → passes_at (is_redone c.args.flow.now.flow.def) c.loop-place.flow.flow.attempts c.loop-place.place ≡ passes
told c passes is =
    sym (ap (λ z. passes_at (is_redone z.def) c.loop-place.flow.flow.attempts c.loop-place.place) c.loop-place.invariant.flow) ∙ (sym c.is_redone_at.ensures ∙ is)

pub loop-place-preserved : goal.loop-place-preserved
loop-place-preserved c = elim c.if-is_redone_at.branch [
  | then-is_redone_at w ↦ record {
    flow = judged_on (is_redone c.args.flow.now.flow.def) c.loop-place.place c.args.flow.now.flow c.loop-place.flow.flow c.if-is_redone_at.flow.flow c.loop-place.invariant.flow
        (told c _ w.if-is_redone_at.true) (ap (λ z. z.flow) w.flow-is ∙ w.supersede_at.ensures.flow);
    room = ap (λ z. z.spare) w.flow-is ∙ (w.supersede_at.ensures.room ∙ c.loop-place.invariant.room);
  }
  | else-is_redone_at w ↦ record {
    flow = ap (λ z. z.flow) w.flow-is ∙ judged_off (is_redone c.args.flow.now.flow.def) c.loop-place.place c.args.flow.now.flow c.loop-place.flow.flow c.loop-place.invariant.flow
        (told c _ w.if-is_redone_at.false);
    room = ap (λ z. z.spare) w.flow-is ∙ c.loop-place.invariant.room;
  }
]

pub returns-clause-flow : goal.returns-clause-flow
returns-clause-flow c =
    judged_flow (is_redone c.args.flow.now.flow.def) c.loop-place.place c.args.flow.now.flow c.loop-place.flow.flow c.loop-place.invariant.flow
    (omega (arith, c.loop-place-test.false, c.len-place-end.ensures))
