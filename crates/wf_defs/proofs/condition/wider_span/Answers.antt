use Rattle.std.proofs.Common.{◌≡◌, ◌∙◌, ap, sym, ℕ, ◌+◌, ◌-◌, List, length, take, drop, length-drop, arith}
use Rattle.std.proofs.lemmas.List.{take_all}
use Rattle.wf_defs.specs.Condition.{is_rest}
use Rattle.wf_defs.proofs.SpanLemmas.{span_other, span_paren}
use Rattle.wf_defs.proofs.condition.wider_span.Goals as goal

whole : (t : List ℕ) (n : ℕ) → take (length t - n) (drop n t) ≡ drop n t
whole t n = take_all (length t - n) (drop n t) (omega (arith, length-drop n t))

pub returns-then-is_rest-clause-span : goal.returns-then-is_rest-clause-span
returns-then-is_rest-clause-span c =
    let rest = whole c.args.text.now (c.args.i + 1) in
    span_paren c.args.text.now c.args.i c.requires.here c.if-text-i-ne41.false (ap is_rest (sym rest) ∙ sym c.is_rest.ensures ∙ c.if-is_rest.true)

pub returns-clause-span : goal.returns-clause-span
returns-clause-span c =
    let rest = whole c.args.text.now (c.args.i + 1) in
    span_other c.args.text.now c.args.i c.args.first c.args.end 41 c.requires.here c.if-text-i-ne41.false (ap is_rest (sym rest) ∙ sym c.is_rest.ensures ∙ c.if-is_rest.false) c.requires.before c.requires.behind
