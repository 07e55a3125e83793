use Rattle.std.proofs.Common.{◌∙◌, arith}
use Rattle.std.proofs.lemmas.Grind.{common_steps}
use Rattle.wf_defs.proofs.WordLemmas.{ends_in_turn-later}
use Rattle.wf_defs.proofs.names.ends_in_turn.Goals as goal

pub loop-i-preserved : goal.loop-i-preserved
loop-i-preserved c =
    ends_in_turn-later c.args.word.now c.loop-i.i (omega arith) (grind (arith, common_steps)) ∙ c.loop-i.invariant
