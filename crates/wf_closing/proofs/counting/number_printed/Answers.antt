use Rattle.std.proofs.Common.{◌≡◌, ◌∙◌, sym, ap, subst, true, false, Some, FitsSigned, w64}
use Rattle.std.specs.Fmt.{signed_decimal}
use Rattle.std.proofs.lemmas.Int.{to_z-of_z}
use Rattle.wf_machine.specs.Text.{same_text}
use Rattle.wf_closing.proofs.CountLemmas.{not_read, read_and_printed, read_not_printed}
use Rattle.wf_closing.proofs.counting.number_printed.Goals as goal

pub returns-in_default : goal.returns-in_default
returns-in_default c = not_read c.args.text.now c.in_default.field-0 c.in_default.ensures.value.0

pub returns-then-eq : goal.returns-then-eq
returns-then-eq c =
    let number = c.in-Ok.number in
    let parsed = c.in-Ok.ensures.value.0 in
    let fits : FitsSigned w64 number = subst (λ z. FitsSigned w64 z) (sym parsed.1) parsed.0.1 in
    let whole = to_z-of_z w64 number fits in
    let same : same_text c.args.text.now (signed_decimal number) ≡ true =
    ap (λ z. same_text c.args.text.now (signed_decimal z)) (sym whole) ∙ ap (same_text c.args.text.now) (sym c.format.ensures.text) ∙ sym c.eq.ensures ∙ c.if-eq.true in
    ap Some whole ∙ read_and_printed c.args.text.now number fits.sfits same

pub returns-else-eq : goal.returns-else-eq
returns-else-eq c =
    let number = c.in-Ok.number in
    let parsed = c.in-Ok.ensures.value.0 in
    let fits : FitsSigned w64 number = subst (λ z. FitsSigned w64 z) (sym parsed.1) parsed.0.1 in
    let whole = to_z-of_z w64 number fits in
    let other : same_text c.args.text.now (signed_decimal number) ≡ false =
    ap (λ z. same_text c.args.text.now (signed_decimal z)) (sym whole) ∙ ap (same_text c.args.text.now) (sym c.format.ensures.text) ∙ sym c.eq.ensures ∙ c.if-eq.false in
    read_not_printed c.args.text.now number c.parse.result c.in-Ok.is other c.parse.ensures.value.0
