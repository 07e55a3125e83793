use Rattle.std.proofs.Common.{◌∙◌, ◌∷◌, drop, ◌+◌, ap, sym}
use Rattle.wf_wire.specs.Fields.{same_word, values}
use Rattle.wf_wire.specs.Reading.{pairs}
use Rattle.wf_wire.proofs.FieldLemmas.{first_here, first_not_here}
use Rattle.wf_wire.proofs.fields.first_value.Goals as goal

pub returns-then-same_word : goal.returns-then-same_word
returns-then-same_word c = (
  values c.args.name.now (pairs (drop (c.loop-field.field-index + 1) c.args.fields.now)),
  first_here c.args.name.now c.args.fields.now c.loop-field.field-index c.field-item.result c.loop-field.invariant c.loop-field-test.true c.field-item.is
      (ap (λ x. same_word x c.args.name.now) (sym c.deref.ensures.value) ∙ sym c.same_word.ensures ∙ c.if-same_word.true) ∙ ap (λ x. x ∷ values c.args.name.now (pairs (drop (c.loop-field.field-index + 1) c.args.fields.now))) (sym c.as_slice.ensures.value),
)

pub loop-field-preserved : goal.loop-field-preserved
loop-field-preserved c = first_not_here c.args.name.now c.args.fields.now c.loop-field.field-index c.field-item.result c.loop-field.invariant c.loop-field-test.true c.field-item.is
    (ap (λ x. same_word x c.args.name.now) (sym c.deref.ensures.value) ∙ sym c.same_word.ensures ∙ c.if-same_word.false)
