use Rattle.std.proofs.Common.{◌≡◌, ℕ, ap, sym, subst, ◌∙◌}
use Rattle.wf_wire.specs.declared.limits.Limits.{Limits}
use Rattle.wf_rules.specs.Acts.{Turn}
use Rattle.wf_rules.specs.Plans.{AllBelow, plan, turn_at}
use Rattle.wf_rules.specs.Rules.{decide}
use Rattle.wf_rules.specs.Sight.{Scene, scene_in}
use Rattle.wf_rules.proofs.PlanLemmas.{plan_decides}
use Rattle.wf_turn.specs.Growing.{IsLaterTurn}
use Rattle.wf_turn.proofs.GrowLemmas.{later_made}
use Rattle.wf_core.proofs.BesideLemmas.{below_more}
use Rattle.wf_core.proofs.steps.Core.decide.Goals as goal

pub decide-requires-clause-children : goal.decide-requires-clause-children
decide-requires-clause-children c =
    let cs = c.setting-at.result.scene.children in
    subst (λ (t : Turn). AllBelow t.next_flow cs) (sym c.new-turn.ensures) (below_more c.args.self.now.state.next_flow c.args.next_flow cs c.requires.next c.setting-at.ensures.below)

-- what the decision is of
decided : (c : goal.After-next_task)
    → c.decide.new.turn ≡ decide c.args.self.now.limits (scene_in c.args.self.now.state c.args.flow.flow) c.args.kept c.args.moment
    (turn_at c.args.flow.flow (record { flow = c.args.next_flow; task = c.args.next_task }))
decided c =
    let limits = c.args.self.now.limits in
    let scene = scene_in c.args.self.now.state c.args.flow.flow in
    let at = c.setting-at.result in
    let told = c.setting-at.ensures in
    c.in_ok-decide.ensures
    ∙ ap (λ (l : Limits). decide l at.scene c.args.kept at.moment c.new-turn.result) told.limits
    ∙ ap (λ (x : Scene). decide limits x c.args.kept at.moment c.new-turn.result) told.scene
    ∙ ap (λ (m : ℕ). decide limits scene c.args.kept m c.new-turn.result) told.moment
    ∙ ap (λ (t : Turn). decide limits scene c.args.kept c.args.moment t) c.new-turn.ensures

pub returns-clause-turn : goal.returns-clause-turn
returns-clause-turn c = decided c

pub returns-clause-later : goal.returns-clause-later
returns-clause-later c =
    let limits = c.args.self.now.limits in
    let scene = scene_in c.args.self.now.state c.args.flow.flow in
    let start = turn_at c.args.flow.flow (record { flow = c.args.next_flow; task = c.args.next_task }) in
    subst (λ (t : Turn). IsLaterTurn start t) (plan_decides limits scene c.args.kept c.args.moment start ∙ sym (decided c))
    (later_made c.args.moment (plan limits scene c.args.kept c.args.moment start) start)
