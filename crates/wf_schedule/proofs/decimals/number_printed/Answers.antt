use Rattle.std.proofs.Common.{◌∙◌, ap, sym, subst, ℕ, Some, SFits, to_z-of_z, w64}
use Rattle.wf_schedule.proofs.DecimalLemmas.{readable, unreadable}
use Rattle.wf_schedule.proofs.decimals.number_printed.Goals as goal

pub returns-in-Ok : goal.returns-in-Ok
returns-in-Ok c =
    let parsed = c.in-Ok.ensures.value.0 in
    let fits : SFits w64 c.in-Ok.number = subst (λ z. SFits w64 z) (sym parsed.1) parsed.0.1 in
    let begins = rw c.as_bytes.ensures.value at c.if-not-begins_so.ensures in
    ap Some (to_z-of_z fits) ∙ readable ℕ c.args.text.now c.in-Ok.number parsed (sym begins)

pub returns-in-Err : goal.returns-in-Err
returns-in-Err c = unreadable c.args.text.now c.in-Err.field-0 c.in-Err.ensures.value.0
