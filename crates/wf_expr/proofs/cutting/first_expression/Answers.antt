use Rattle.std.proofs.Common.{lit<, None, Some}
use Rattle.std.proofs.lemmas.Str.Pattern.{split_parts}
use Rattle.wf_expr.proofs.PartLemmas.{around, left_open, never_opened, none_here, opened_at}
use Rattle.wf_expr.proofs.cutting.first_expression.Goals as goal

pub returns-in_err-before-clause-none : goal.returns-in_err-before-clause-none
returns-in_err-before-clause-none c = rw c.from_residual.ensures (never_opened c.args.text.now c.in_err-before.ensures.cases)

pub returns-in_err-expression-clause-none : goal.returns-in_err-expression-clause-none
returns-in_err-expression-clause-none c =
    let start = opened_at c.args.text.now (c.in_ok-before.before, c.in_ok-before.rest) c.in_ok-before.ensures.cases in
    let open_end = split_parts 125 c.in_ok-before.rest.now None c.in_err-expression.ensures.cases (lit< tt) in
    rw c.from_residual-in_err-expression.ensures
    (left_open c.args.text.now c.in_ok-before.before.now c.in_ok-before.rest.now start.0 start.1 (none_here c.in_ok-before.rest.now open_end))

pub returns-clause-some : goal.returns-clause-some
returns-clause-some c =
    let start = opened_at c.args.text.now (c.in_ok-before.before, c.in_ok-before.rest) c.in_ok-before.ensures.cases in
    let end = split_parts 125 c.in_ok-before.rest.now (Some (c.in_ok-expression.expression, c.in_ok-expression.after)) c.in_ok-expression.ensures.cases (lit< tt) in
    around c.args.text.now c.in_ok-before.before.now c.in_ok-before.rest.now c.in_ok-expression.expression.now c.in_ok-expression.after.now start.0 end.0 start.1 (none_here c.in_ok-expression.expression.now end.1)
