use Rattle.std.specs.Vec.Iter.{into_iter_items}
use Rattle.wf_rules.specs.Acts.{made}
use Rattle.wf_turn.proofs.ActLemmas.{IsMaking}
use Rattle.wf_turn.proofs.turn.Turn.make_all.Given as goal

-- what is left to make leads to what all acts make
abbrev pub invariant-loop-act : goal.invariant-loop-act
invariant-loop-act l = IsMaking l.moment (made l.moment l.fn.acts.items l.fn.self) (into_iter_items l.act-iterator) l.self
