use Rattle.std.proofs.Common.{◌≡◌, drop}
use Rattle.wf_defs.specs.Condition.{skip_blanks}
use Rattle.wf_defs.proofs.condition.skip_blanks.Given as goal

abbrev pub invariant-loop-i : goal.invariant-loop-i
invariant-loop-i l =
    skip_blanks (drop l.i l.text) ≡ skip_blanks l.text
