use Rattle.std.proofs.Common.{◌≡◌, refl, ap}
use Rattle.wf_flow.specs.Changes as kept
use Rattle.wf_rules.specs.Acts.{forgiven}
use Rattle.wf_turn.proofs.PlaceLemmas.{failed_there, flow_changed}
use Rattle.wf_rules.specs.declared.acting.Act.TheVariants.{Forgive}
use Rattle.wf_rules.specs.Acts.{make}
use Rattle.wf_turn.specs.TurnFields.{turn_shown}
use Rattle.wf_turn.proofs.ActLemmas.{sound_made}
use Rattle.wf_turn.proofs.turn.Turn.forgive.Goals as goal

-- the flow after the act
after : (c : goal.After-forgive_at) → c.forgive_at.new.self.flow ≡ (make c.args.moment (Forgive c.args.place) (turn_shown c.self.inside)).flow
after c = flow_changed c.self.inside.flow.flow c.forgive_at.new.self.flow c.args.place (kept.forgiven c.args.moment) (forgiven c.args.moment) (λ a. refl) c.forgive_at.ensures.flow

pub forgive_at-requires-clause-failed : goal.forgive_at-requires-clause-failed
forgive_at-requires-clause-failed c = failed_there c.args.place c.self.inside.flow.flow.attempts (rw (← c.self.view_is) at c.requires.failed)

pub invariant_of-self : goal.invariant_of-self
invariant_of-self c = sound_made c.args.moment (Forgive c.args.place) (turn_shown c.self.inside) c.forgive_at.new.self.flow c.self.invariant refl (after c)

pub returns : goal.returns
returns c = rw (← c.self.view_is) (ap (λ f. record (turn_shown c.self.inside) { flow = f }) (after c))
