use Rattle.std.proofs.Common.{◌≡◌, ◌∙◌, ◌++◌, ap, sym, arith, map, string_bytes}
use Rattle.std.proofs.lemmas.Result.{err_from_is_err_and}
use Rattle.wf_expr.specs.Filling.{joined, named, text_of_any}
use Rattle.wf_expr.specs.Parts.{byte, parts}
use Rattle.wf_expr.proofs.FillLemmas.{escaped_pieces, joined_around, joined_plain, one_more, quoted_length, two_more, when_none}
use Rattle.wf_expr.proofs.filling.join.Goals as goal

pub returns-in_err-push-clause-large : goal.returns-in_err-push-clause-large
returns-in_err-push-clause-large g c =
    let names = g.S.Scope.names c.args.scope.now in
    let cut = c.in-Some.cut in
    let all = joined names (parts c.args.text.now) in
    let split = c.parts.invariant.so_far ∙ ap (λ t. string_bytes c.parts.made ++ t) (joined_around names c.parts.rest.now cut.before.now cut.expression.now cut.after.now c.in-Some.ensures.some) in
    let long = escaped_pieces all (string_bytes c.parts.made) cut.before.now (text_of_any (named names cut.expression.now)) (joined names (parts cut.after.now)) split in
    let p = err_from_is_err_and c.from_residual-in_err-push.result c.from_residual-in_err-push.ensures.1 in
    rw (p.1, p.2) (λ large. omega (arith, c.in_err-push.ensures.large large, c.parts.invariant.left, long, quoted_length all))

pub returns-in_err-push_named-clause-large : goal.returns-in_err-push_named-clause-large
returns-in_err-push_named-clause-large g c =
    let names = g.S.Scope.names c.args.scope.now in
    let cut = c.in-Some.cut in
    let all = joined names (parts c.args.text.now) in
    let split = c.parts.invariant.so_far ∙ ap (λ t. string_bytes c.parts.made ++ t) (joined_around names c.parts.rest.now cut.before.now cut.expression.now cut.after.now c.in-Some.ensures.some) in
    let long = escaped_pieces all (string_bytes c.parts.made) cut.before.now (text_of_any (named names cut.expression.now)) (joined names (parts cut.after.now)) split in
    let p = err_from_is_err_and c.from_residual-in_err-push_named.result c.from_residual-in_err-push_named.ensures.1 in
    rw (p.1, p.2) (λ large. omega (arith, c.in_err-push_named.ensures.large large, c.in_ok-push.ensures.taken, c.parts.invariant.left, long, quoted_length all))

pub parts-preserved : goal.parts-preserved
parts-preserved g c =
    let names = g.S.Scope.names c.args.scope.now in
    let cut = c.in-Some.cut in
    let value = text_of_any (named names cut.expression.now) in
    let split = c.parts.invariant.so_far ∙ ap (λ t. string_bytes c.parts.made ++ t) (joined_around names c.parts.rest.now cut.before.now cut.expression.now cut.after.now c.in-Some.ensures.some) in
    record {
      so_far = split ∙ two_more (string_bytes c.parts.made) cut.before.now value (joined names (parts cut.after.now)) (string_bytes c.push.new.made) (string_bytes c.push_named.new.made) c.in_ok-push.ensures.made c.in_ok-push_named.ensures.made;
      left = omega (
        arith,
        c.parts.invariant.left,
        c.in_ok-push.ensures.taken,
        c.in_ok-push_named.ensures.taken,
        one_more (string_bytes c.parts.made) cut.before.now (string_bytes c.push.new.made) c.in_ok-push.ensures.made,
        one_more (string_bytes c.push.new.made) value (string_bytes c.push_named.new.made) c.in_ok-push_named.ensures.made,
      );
      utf8 = c.in-Some.ensures.utf8;
    }

pub returns-in_err-push-2-clause-large : goal.returns-in_err-push-2-clause-large
returns-in_err-push-2-clause-large g c =
    let names = g.S.Scope.names c.args.scope.now in
    let rest = c.parts.rest.now in
    let all = joined names (parts c.args.text.now) in
    let bytes = when_none c.first_expression.result (parts rest ≡ map byte rest) c.in_default.not-Some c.first_expression.ensures.none in
    let whole = c.parts.invariant.so_far ∙ ap (λ t. string_bytes c.parts.made ++ t) (joined_plain names rest bytes) in
    let p = err_from_is_err_and c.from_residual-in_err-push-2.result c.from_residual-in_err-push-2.ensures.1 in
    rw (p.1, p.2) (λ large. omega (arith, c.in_err-push-2.ensures.large large, c.parts.invariant.left, one_more (string_bytes c.parts.made) rest all whole, quoted_length all))

pub returns-clause-made : goal.returns-clause-made
returns-clause-made g c =
    let names = g.S.Scope.names c.args.scope.now in
    let rest = c.parts.rest.now in
    let bytes = when_none c.first_expression.result (parts rest ≡ map byte rest) c.in_default.not-Some c.first_expression.ensures.none in
    let whole = c.parts.invariant.so_far ∙ ap (λ t. string_bytes c.parts.made ++ t) (joined_plain names rest bytes) in
    c.from_string.ensures ∙ c.in_ok-push-2.ensures.made ∙ sym whole

pub returns-clause-taken : goal.returns-clause-taken
returns-clause-taken g c =
    let names = g.S.Scope.names c.args.scope.now in
    let rest = c.parts.rest.now in
    let all = joined names (parts c.args.text.now) in
    let bytes = when_none c.first_expression.result (parts rest ≡ map byte rest) c.in_default.not-Some c.first_expression.ensures.none in
    let whole = c.parts.invariant.so_far ∙ ap (λ t. string_bytes c.parts.made ++ t) (joined_plain names rest bytes) in
    omega (arith, c.in_ok-push-2.ensures.taken, c.parts.invariant.left, one_more (string_bytes c.parts.made) rest all whole, quoted_length all)
