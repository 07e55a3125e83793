use Rattle.std.proofs.Common.{◌≡◌, drop}
use Rattle.wf_defs.specs.Names.{ends_in_turn}
use Rattle.wf_defs.proofs.names.ends_in_turn.Given as goal

abbrev pub invariant-loop-i : goal.invariant-loop-i
invariant-loop-i l =
    ends_in_turn (drop l.i l.word) ≡ ends_in_turn l.word
