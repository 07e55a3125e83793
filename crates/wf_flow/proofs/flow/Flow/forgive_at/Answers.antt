use Rattle.std.proofs.Common.{◌≡◌, true, refl}
use Rattle.wf_flow.specs.Changes.{forgiven, has_failed}
use Rattle.wf_flow.specs.FlowFields.{flow_shown}
use Rattle.wf_flow.proofs.SpotLemmas.{keeping_forgiven, spot_fact, spot_kept}
use Rattle.wf_flow.proofs.flow.Flow.forgive_at.Goals as goal

pub invariant_of-self : goal.invariant_of-self
invariant_of-self c =
    let failed = rw (← c.self.view_is) at c.requires.failed in
    rw c.forgive.ensures.items
    (spot_kept (flow_shown c.self.inside) c.args.place (forgiven c.args.moment) (λ a. record { number = refl; node = refl; iteration = refl; retried = refl }) c.self.invariant
    (λ a there range sound. keeping_forgiven c.self.inside.def c.args.moment a c.requires.moment (spot_fact (λ x. has_failed x.status ≡ true) _ a failed there) range sound))
