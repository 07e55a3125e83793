use Rattle.std.proofs.Common.{◌≡◌, ◌-◌, ◌++◌}
use Rattle.wf_rules.specs.Plans.{AllBelow, planned}
use Rattle.wf_decide.proofs.planning.gather.Given as goal

-- the acts so far, and what is left to plan, are the whole plan
abbrev pub invariant-loop-rule : goal.invariant-loop-rule
invariant-loop-rule g l = record {
  rest : l.acts.items ++ planned l.at.limits l.at.scene l.kept l.at.moment (l.most - l._rule) l.turn ≡ planned l.at.limits l.at.scene l.kept l.at.moment l.most l.fn.turn;
  children : AllBelow l.turn.next_flow l.at.scene.children;
}
