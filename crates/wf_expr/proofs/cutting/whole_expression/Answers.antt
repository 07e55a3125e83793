use Rattle.std.proofs.Common.{◌∙◌, ap, sym}
use Rattle.wf_expr.specs.Parts.{only_expression}
use Rattle.wf_expr.proofs.PartLemmas.{more_before, more_behind, only_bytes}
use Rattle.wf_expr.proofs.cutting.whole_expression.Goals as goal
use Rattle.wf_expr.proofs.cutting.whole_expression.Goals.{else-is_empty-via-then-is_empty+else-is_empty-2, else-is_empty-via-else-is_empty}

pub returns-in_err-cut : goal.returns-in_err-cut
returns-in_err-cut c = rw c.from_residual.ensures (sym (ap only_expression c.in_err-cut.ensures.none ∙ only_bytes c.args.text.now))

pub returns-else-is_empty : goal.returns-else-is_empty
returns-else-is_empty c =
    let cut = c.in_ok-cut.cut in
    elim c.else-is_empty.branch [
      | else-is_empty-via-then-is_empty+else-is_empty-2 w ↦ sym (ap only_expression c.in_ok-cut.ensures.some ∙ more_behind cut.before.now cut.expression.now cut.after.now w.if-is_empty-2.ensures)
      | else-is_empty-via-else-is_empty w ↦ sym (ap only_expression c.in_ok-cut.ensures.some ∙ more_before cut.before.now cut.expression.now cut.after.now w.if-is_empty.ensures)
    ]
