use Rattle.std.proofs.Common.{◌≡◌, ◌++◌, map, take, drop}
use Rattle.wf_rules.specs.Rules.{fitted}
use Rattle.wf_decide.proofs.allowing.fit_all.Given as goal

-- those before the index are fitted, and the others are as they were
abbrev pub invariant-loop-act : goal.invariant-loop-act
invariant-loop-act l =
    l.acts ≡ map (fitted l.room) (take l.act-index l.initial.acts) ++ drop l.act-index l.initial.acts
