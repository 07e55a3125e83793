use Rattle.std.proofs.Common.{◌≡◌, ◌-◌}
use Rattle.wf_rules.specs.Plans.{AllBelow}
use Rattle.wf_rules.specs.Rules.{after}
use Rattle.wf_decide.proofs.deciding.decide.Given as goal

-- what is left to decide leads to the whole
abbrev pub invariant-loop-rule : goal.invariant-loop-rule
invariant-loop-rule g l = record {
  rest : after l.at.limits l.at.scene l.kept l.at.moment (l.most - l._rule) l.turn ≡ after l.at.limits l.at.scene l.kept l.at.moment l.most l.fn.turn;
  children : AllBelow l.turn.next_flow l.at.scene.children;
}
