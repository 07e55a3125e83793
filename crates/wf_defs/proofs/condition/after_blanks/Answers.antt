use Rattle.std.proofs.Common.{◌≡◌, true, drop, nat_eq, arith}
use Rattle.std.proofs.lemmas.Grind.{common_steps}
use Rattle.std.specs.List.{starts_with}
use Rattle.wf_defs.proofs.ConditionLemmas.{after_blanks_here}
use Rattle.wf_defs.proofs.condition.after_blanks.Goals as goal

pub returns-then-starts_with : goal.returns-then-starts_with
returns-then-starts_with c =
    let begins : starts_with nat_eq (drop c.loop-i.i c.args.text.now) c.args.word.now ≡ true = grind (arith, common_steps) in
    let found = after_blanks_here c.args.word.now (drop c.loop-i.i c.args.text.now) begins in
    grind (arith, common_steps, found)
