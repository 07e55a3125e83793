use Rattle.std.proofs.Common.{◌≡◌, ◌∙◌, ap, sym, ◌-◌, length, take, drop, false, length-drop, arith}
use Rattle.std.proofs.lemmas.List.{take_all}
use Rattle.wf_machine.specs.Text.{same_text}
use Rattle.std.specs.Prelude.{nat_le}
use Rattle.std.proofs.lemmas.Bool.Decides.{nat_tests}
use Rattle.wf_defs.proofs.BlankLemmas.{too_long, stands_here, stands_nowhere}
use Rattle.wf_defs.proofs.condition.stands_last.Goals as goal

pub returns-then-key-text : goal.returns-then-key-text
returns-then-key-text c = sym (too_long c.args.key.now c.args.text.now c.if-key-text.true)

pub returns-then-before-blanks : goal.returns-then-before-blanks
returns-then-before-blanks c =
    let n = length c.args.text.now - length c.args.key.now in
    let rest = drop n c.args.text.now in
    let whole : take (length c.args.text.now - n) rest ≡ rest = take_all (length c.args.text.now - n) rest (omega (arith, length-drop n c.args.text.now)) in
    c.eq.ensures ∙ ap (λ w. same_text w c.args.key.now) whole ∙ stands_here c.args.key.now c.args.text.now c.args.blanks c.requires c.if-key-text.false c.if-before-blanks.true

pub returns-else-before-blanks : goal.returns-else-before-blanks
returns-else-before-blanks c =
    let over = c.if-before-blanks.false in
    let none : nat_le (length c.args.text.now - length c.args.key.now) c.args.blanks ≡ false = grind (arith, nat_tests, over) in
    none ∙ sym (stands_nowhere c.args.key.now c.args.text.now c.args.blanks c.requires c.if-key-text.false over)
