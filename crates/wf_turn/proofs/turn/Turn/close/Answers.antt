use Rattle.std.proofs.Common.{◌≡◌, refl, ap}
use Rattle.wf_turn.proofs.PlaceLemmas.{flow_closed, open_there}
use Rattle.wf_rules.specs.declared.acting.Act.TheVariants.{Close}
use Rattle.wf_rules.specs.Acts.{make}
use Rattle.wf_turn.specs.TurnFields.{turn_shown}
use Rattle.wf_turn.proofs.ActLemmas.{sound_made}
use Rattle.wf_turn.proofs.turn.Turn.close.Goals as goal

-- the flow after the act
after : (c : goal.After-close_at) → c.close_at.new.self.flow ≡ (make c.args.moment (Close c.args.place c.args.outcome c.args.reason c.args.output) (turn_shown c.self.inside)).flow
after c = flow_closed c.self.inside.flow.flow c.close_at.new.self.flow c.args.place c.args.moment c.status_of.result c.args.outcome c.args.reason c.args.output c.status_of.ensures c.close_at.ensures.flow

pub close_at-requires-clause-opened : goal.close_at-requires-clause-opened
close_at-requires-clause-opened c = open_there c.args.place c.self.inside.flow.flow.attempts (rw (← c.self.view_is) at c.requires.opened)

pub invariant_of-self : goal.invariant_of-self
invariant_of-self c = sound_made c.args.moment (Close c.args.place c.args.outcome c.args.reason c.args.output) (turn_shown c.self.inside) c.close_at.new.self.flow c.self.invariant refl (after c)

pub returns : goal.returns
returns c = rw (← c.self.view_is) (ap (λ f. record (turn_shown c.self.inside) { flow = f }) (after c))
