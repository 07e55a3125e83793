use Rattle.std.proofs.Common.{◌≡◌, refl, ap}
use Rattle.wf_flow.specs.Changes as kept
use Rattle.wf_rules.specs.Acts.{turned}
use Rattle.wf_turn.proofs.PlaceLemmas.{flow_changed}
use Rattle.wf_rules.specs.declared.acting.Act.TheVariants.{Turn as TurnOn}
use Rattle.wf_rules.specs.Acts.{make}
use Rattle.wf_turn.specs.TurnFields.{turn_shown}
use Rattle.wf_turn.proofs.ActLemmas.{sound_made}
use Rattle.wf_turn.proofs.turn.Turn.turn_on.Goals as goal

-- the flow after the act
after : (c : goal.After-turn_at) → c.turn_at.new.self.flow ≡ (make c.args.moment (TurnOn c.args.place c.args.output c.args.turn) (turn_shown c.self.inside)).flow
after c = flow_changed c.self.inside.flow.flow c.turn_at.new.self.flow c.args.place (kept.turned c.args.moment c.args.output c.args.turn) (turned c.args.moment c.args.output c.args.turn) (λ a. refl) c.turn_at.ensures.flow

pub invariant_of-self : goal.invariant_of-self
invariant_of-self c = sound_made c.args.moment (TurnOn c.args.place c.args.output c.args.turn) (turn_shown c.self.inside) c.turn_at.new.self.flow c.self.invariant refl (after c)

pub returns : goal.returns
returns c = rw (← c.self.view_is) (ap (λ f. record (turn_shown c.self.inside) { flow = f }) (after c))
