use Rattle.std.proofs.Common.{◌≡◌, false, refl}
use Rattle.wf_names.specs.TaskStatus.{task_is_open}
use Rattle.wf_machine.specs.Operators.{superseded}
use Rattle.wf_flow.specs.FlowFields.{flow_shown}
use Rattle.wf_flow.proofs.RecordLemmas.{keeping_superseded}
use Rattle.wf_flow.proofs.SpotLemmas.{spot_fact, spot_kept}
use Rattle.wf_flow.proofs.flow.Flow.supersede_at.Goals as goal

pub invariant_of-self : goal.invariant_of-self
invariant_of-self c =
    let over = rw (← c.self.view_is) at c.requires in
    rw c.supersede.ensures.items
    (spot_kept (flow_shown c.self.inside) c.args.place superseded (λ a. record { number = refl; node = refl; iteration = refl; retried = refl }) c.self.invariant
    (λ a there range sound. keeping_superseded c.self.inside.def a (spot_fact (λ x. task_is_open x.status ≡ false) _ a over there) range sound))
