use Rattle.std.proofs.Common.{◌≡◌, ◌∙◌, IfOk, subst, sym, ap}
use Rattle.wf_machine.specs.declared.definition.FlowDef.{FlowDef}
use Rattle.wf_machine.specs.Sight.{seen}
use Rattle.wf_setting.specs.Setting.{sight_in}
use Rattle.wf_retry.specs.Reading.{acts_unretried, timing_again}
use Rattle.wf_retry.proofs.LostLemmas.{lost_again, lost_for_good, sight_def}
use Rattle.wf_retry.proofs.retrying.acts_lost.Goals as goal

pub returns-in_ok-again-in-Some : goal.returns-in_ok-again-in-Some
returns-in_ok-again-in-Some g c =
    let at = c.args.at.now in
    let f = c.args.flow.now.flow in
    subst (λ xs. IfOk c.add_one.result (λ acts. acts.items ≡ xs))
    (lost_again at.limits (sight_in at f) c.args.place (seen c.args.attempt.now) f.def c.in-Some.timing.now c.in_ok-again-in-Some.again (sight_def at.moment at.scene.children f)
    (ap (λ (d : FlowDef). timing_again d (seen c.args.attempt.now)) (sym c.def.ensures) ∙ sym c.in-Some.ensures.timing) c.in_ok-again-in-Some.ensures)
    c.add_one.ensures

pub returns-in-None : goal.returns-in-None
returns-in-None g c =
    let at = c.args.at.now in
    let f = c.args.flow.now.flow in
    subst (λ xs. IfOk c.acts_unretried.result (λ acts. acts.items ≡ xs))
    (ap (λ (d : FlowDef). acts_unretried d c.args.place (seen c.args.attempt.now)) c.def-in-None.ensures
    ∙ lost_for_good at.limits (sight_in at f) c.args.place (seen c.args.attempt.now) f.def (sight_def at.moment at.scene.children f)
    (ap (λ (d : FlowDef). timing_again d (seen c.args.attempt.now)) (sym c.def.ensures) ∙ sym c.in-None.ensures.timing))
    c.acts_unretried.ensures
