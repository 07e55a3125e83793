use Rattle.std.proofs.Common.{◌≡◌, take}
use Rattle.wf_decide.proofs.copies.copy_acts.Given as goal

-- those before this place are copied
abbrev pub invariant-loop-act : goal.invariant-loop-act
invariant-loop-act l = l.made.items ≡ take l.act-index l.acts
