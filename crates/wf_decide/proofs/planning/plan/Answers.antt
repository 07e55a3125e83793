use Rattle.std.proofs.Common.{◌≡◌, ◌∙◌, ap}
use Rattle.wf_machine.specs.State.{Flow}
use Rattle.wf_rules.specs.Acts.{Turn}
use Rattle.wf_rules.specs.Plans.{plan, turn_at}
use Rattle.wf_setting.specs.Setting.{Setting}
use Rattle.wf_decide.specs.Viewing.{numbers_of, scene_of}
use Rattle.wf_decide.proofs.PlannedLemmas.{applies_at_once}
use Rattle.wf_decide.proofs.planning.plan.Goals as goal

pub returns-clause-applies : goal.returns-clause-applies
returns-clause-applies c =
    let view = c.args.view.now in
    let flow = c.args.flow.now.flow in
    let turn : c.new-turn.result ≡ turn_at flow (numbers_of view) = c.new-turn.ensures ∙ ap (λ (f : Flow). turn_at f (numbers_of view)) c.in_ok-copy.ensures in
    let acts : c.in_ok-acts.acts.items ≡ plan c.args.limits.now (scene_of view flow) view.flows c.max-moment.result (turn_at flow (numbers_of view)) =
    c.in_ok-acts.ensures ∙ ap (λ (at : Setting). plan at.limits at.scene view.flows at.moment c.new-turn.result) c.setting_of-at.ensures
    ∙ ap (λ (t : Turn). plan c.args.limits.now (scene_of view flow) view.flows c.max-moment.result t) turn in
    applies_at_once c.args.limits.now (scene_of view flow) flow (numbers_of view) c.new.result c.requires.tasks c.requires.flows c.requires.children
    (rw c.new.ensures acts)
