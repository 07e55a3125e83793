use Rattle.std.proofs.Common.{◌≡◌, drop}
use Rattle.wf_defs.specs.Condition.{after_blanks}
use Rattle.wf_defs.proofs.condition.after_blanks.Given as goal

abbrev pub invariant-loop-i : goal.invariant-loop-i
invariant-loop-i l =
    after_blanks l.word (drop l.i l.text) ≡ after_blanks l.word l.text
