use Rattle.std.proofs.Common.{refl}
use Rattle.wf_flow.specs.Changes.{turned}
use Rattle.wf_flow.specs.FlowFields.{flow_shown}
use Rattle.wf_flow.proofs.SpotLemmas.{keeping_turned, spot_kept}
use Rattle.wf_flow.proofs.flow.Flow.turn_at.Goals as goal

pub invariant_of-self : goal.invariant_of-self
invariant_of-self c =
    rw c.turn_on.ensures.items
    (spot_kept (flow_shown c.self.inside) c.args.place (turned c.args.moment c.args.output c.args.turn) (λ a. record { number = refl; node = refl; iteration = refl; retried = refl }) c.self.invariant
    (λ a there range sound. keeping_turned c.self.inside.def c.args.moment c.args.output c.args.turn a c.requires.moment c.requires.turn range sound))
