use Rattle.std.proofs.Common.{◌≡◌, refl, ap}
use Rattle.wf_rules.specs.declared.acting.Act.TheVariants.{End}
use Rattle.wf_rules.specs.Acts.{make}
use Rattle.wf_turn.specs.TurnFields.{turn_shown}
use Rattle.wf_turn.proofs.ActLemmas.{sound_made}
use Rattle.wf_turn.proofs.turn.Turn.end.Goals as goal

-- the flow after the act
after : (c : goal.After-end) → c.end.new.self.flow ≡ (make c.args.moment (End c.args.status c.args.reason c.args.output) (turn_shown c.self.inside)).flow
after c = rw (c.end.ensures.flow, c.give_output.ensures, c.give_reason.ensures) refl

pub invariant_of-self : goal.invariant_of-self
invariant_of-self c = sound_made c.args.moment (End c.args.status c.args.reason c.args.output) (turn_shown c.self.inside) c.end.new.self.flow c.self.invariant refl (after c)

pub returns : goal.returns
returns c = rw (← c.self.view_is) (ap (λ f. record (turn_shown c.self.inside) { flow = f }) (after c))
