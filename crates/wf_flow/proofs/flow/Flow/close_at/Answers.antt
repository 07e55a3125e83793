use Rattle.std.proofs.Common.{◌≡◌, true, refl}
use Rattle.wf_names.specs.TaskStatus.{task_is_open}
use Rattle.wf_flow.specs.Changes.{closed}
use Rattle.wf_flow.specs.FlowFields.{flow_shown}
use Rattle.wf_flow.proofs.SpotLemmas.{keeping_closed, spot_fact, spot_kept}
use Rattle.wf_flow.proofs.flow.Flow.close_at.Goals as goal

pub invariant_of-self : goal.invariant_of-self
invariant_of-self c =
    let opened = rw (← c.self.view_is) at c.requires.opened in
    rw c.close.ensures.items
    (spot_kept (flow_shown c.self.inside) c.args.place (closed c.args.moment c.args.status c.args.reason c.args.output) (λ a. record { number = refl; node = refl; iteration = refl; retried = refl }) c.self.invariant
    (λ a there range sound. keeping_closed c.self.inside.def c.args.moment c.args.status c.args.reason c.args.output a c.requires.moment c.requires.terminal (spot_fact (λ x. task_is_open x.status ≡ true) _ a opened there) range sound))
