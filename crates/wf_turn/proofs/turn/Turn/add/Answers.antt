use Rattle.std.proofs.Common.{◌≡◌, ap}
use Rattle.wf_rules.specs.Acts.{Turn, added}
use Rattle.wf_turn.specs.TurnFields.{turn_shown}
use Rattle.wf_turn.proofs.ActLemmas.{begun_added, kept_added}
use Rattle.wf_turn.proofs.turn.Turn.add.Goals as goal

-- what is added is what the definition adds
begun : (c : goal.After-put-arg-1) → c.begin-made.result ≡ added c.args.moment c.args.attempt (turn_shown c.self.inside)
begun c =
    begun_added c.args.moment c.args.attempt (turn_shown c.self.inside) c.number_of-retried.result c.in_ok-child.child c.replace-child.result c.begin-made.result
    c.begin-made.ensures c.number_of-retried.ensures.value (rw (← c.self.view_is) at c.in_ok-child.ensures.number) c.replace-child.ensures.value

pub put-requires-clause-kept : goal.put-requires-clause-kept
put-requires-clause-kept c =
    kept_added c.args.moment c.args.attempt (turn_shown c.self.inside) c.start.new.self c.begin-made.result c.requires.moment (rw (← c.self.view_is) at c.is_record.ensures) (rw (← c.self.view_is) at c.requires.fits)
    (ap (λ (t : Turn). t.flow) (rw (← c.self.view_is) at c.in_ok-child.ensures.turn)) (begun c)
