use Rattle.std.proofs.Common.{refl}
use Rattle.wf_flow.specs.Changes.{total_noted}
use Rattle.wf_flow.specs.FlowFields.{flow_shown}
use Rattle.wf_flow.proofs.SpotLemmas.{keeping_total_noted, spot_kept}
use Rattle.wf_flow.proofs.flow.Flow.note_total_at.Goals as goal

pub invariant_of-self : goal.invariant_of-self
invariant_of-self c =
    rw c.note_total.ensures.items
    (spot_kept (flow_shown c.self.inside) c.args.place (total_noted c.args.moment c.args.reason) (λ a. record { number = refl; node = refl; iteration = refl; retried = refl }) c.self.invariant
    (λ a there range sound. keeping_total_noted c.self.inside.def c.args.moment c.args.reason a c.requires.moment range sound))
