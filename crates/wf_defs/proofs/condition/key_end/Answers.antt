use Rattle.std.proofs.Common.{◌∙◌, sym, ◌-◌, ◌<◌, length, arith}
use Rattle.std.proofs.lemmas.List.Sums.{prefix_len-le-length}
use Rattle.wf_defs.specs.Condition.{is_blank, blank_count}
use Rattle.wf_defs.proofs.BlankLemmas.{blank_word, word_missing, word_behind}
use Rattle.wf_defs.proofs.condition.key_end.Goals as goal

pub returns-then-own-key-clause-value : goal.returns-then-own-key-clause-value
returns-then-own-key-clause-value c =
    c.word_end.ensures.value ∙ sym (blank_word c.args.key.now c.args.text.now (sym c.blank_count-own.ensures.value ∙ c.if-own-key.true))

pub returns-then-own-blanks-clause-value : goal.returns-then-own-blanks-clause-value
returns-then-own-blanks-clause-value c =
    let counted = c.blank_count-own.ensures.value in
    let some : blank_count c.args.key.now < length c.args.key.now = omega (arith, counted, c.blank_count-own.ensures.within, c.if-own-key.false) in
    sym (word_missing c.args.key.now c.args.text.now some (omega (arith, counted, c.requires, c.if-own-blanks.true)))

pub word_end-requires-2 : goal.word_end-requires-2
word_end-requires-2 c =
    let most = prefix_len-le-length is_blank c.args.text.now in
    omega (arith, most, c.requires)

pub returns-clause-value : goal.returns-clause-value
returns-clause-value c =
    let counted = c.blank_count-own.ensures.value in
    let some : blank_count c.args.key.now < length c.args.key.now = omega (arith, counted, c.blank_count-own.ensures.within, c.if-own-key.false) in
    c.word_end-2.ensures.value
    ∙ sym (word_behind c.args.key.now c.args.text.now (c.args.blanks - c.blank_count-own.result) some (omega (arith, counted, c.requires, c.if-own-blanks.false)))
