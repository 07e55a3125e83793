use Rattle.std.proofs.Common.{◌∙◌, ap}
use Rattle.wf_rules.specs.Acts.{made}
use Rattle.wf_decide.specs.Planning.{Planned}
use Rattle.wf_decide.proofs.PlannedLemmas.{applied_decides}
use Rattle.wf_decide.proofs.plans.apply.Goals as goal

pub returns-in-Ok-clause-decided : goal.returns-in-Ok-clause-decided
returns-in-Ok-clause-decided c =
    λ from. applied_decides c.args.plan c.args.moment c.args.turn.now c.make_all.new.self from
    (c.in-Ok.ensures.made ∙ ap (λ (p : Planned). made c.args.moment p.acts c.args.turn.now) c.plan.view_is)
