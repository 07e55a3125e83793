use Rattle.std.proofs.Common.{◌∙◌, ap, option_map, sym}
use Rattle.wf_doc.proofs.PathLemmas.{step_more}
use Rattle.wf_doc.proofs.path.Path.read.Goals as goal

pub pieces-preserved : goal.pieces-preserved
pieces-preserved c = (
  step_more c.args.text.now c.pieces.rest.now c.split_piece.result.0.now c.pieces.sign _ c.in-Some-after.next_sign c.in-Some-after.next.now c.pieces.steps c.push.new.self c.in-Some.step c.pieces.invariant.0
      (c.split_piece.ensures.pieces c.pieces.sign) (ap (option_map (λ p. (p.0, p.1.now))) c.in-Some-after.is) (sym c.in-Some.is ∙ c.in_ok-step.ensures) c.in_ok-push.ensures.ok,
  (rw c.in-Some-after.is at c.split_piece.ensures.after).0,
)
