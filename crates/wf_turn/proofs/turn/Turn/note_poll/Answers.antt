use Rattle.std.proofs.Common.{◌≡◌, refl, ap}
use Rattle.wf_flow.specs.Changes as kept
use Rattle.wf_rules.specs.declared.acting.Alert.TheVariants.{Poll as PollAlert}
use Rattle.wf_rules.specs.Acts.{noted}
use Rattle.wf_turn.proofs.PlaceLemmas.{flow_changed}
use Rattle.wf_rules.specs.declared.acting.Act.TheVariants.{Note}
use Rattle.wf_rules.specs.Acts.{make}
use Rattle.wf_turn.specs.TurnFields.{turn_shown}
use Rattle.wf_turn.proofs.ActLemmas.{sound_made}
use Rattle.wf_turn.proofs.turn.Turn.note_poll.Goals as goal

-- the flow after the act
after : (c : goal.After-note_poll_at) → c.note_poll_at.new.self.flow ≡ (make c.args.moment (Note c.args.place PollAlert c.args.reason) (turn_shown c.self.inside)).flow
after c = flow_changed c.self.inside.flow.flow c.note_poll_at.new.self.flow c.args.place (kept.poll_noted c.args.moment c.args.reason) (noted c.args.moment PollAlert c.args.reason) (λ a. refl) c.note_poll_at.ensures.flow

pub invariant_of-self : goal.invariant_of-self
invariant_of-self c = sound_made c.args.moment (Note c.args.place PollAlert c.args.reason) (turn_shown c.self.inside) c.note_poll_at.new.self.flow c.self.invariant refl (after c)

pub returns : goal.returns
returns c = rw (← c.self.view_is) (ap (λ f. record (turn_shown c.self.inside) { flow = f }) (after c))
