use Rattle.std.proofs.Common.{◌+◌, ap, ◌∙◌}
use Rattle.wf_steps.proofs.StepLemmas.{made_step}
use Rattle.wf_core.specs.Changes.{change_made}
use Rattle.wf_core.proofs.steps.Core.step.Goals as goal

pub returns-in-Ok-clause-step : goal.returns-in-Ok-clause-step
returns-in-Ok-clause-step c =
    let store = c.args.self.now in
    let change = c.in-Ok.change in
    made_step store.limits (store.entries + 1) c.args.caller c.args.moment c.args.call store.state c.commit_change.new.self.state c.commit_change.result
    (c.commit_change.ensures.step
    ∙ ap (λ n. change_made (n + 1) change c.prepare.new.self.state) c.in-Ok.ensures.entries
    ∙ ap (change_made (store.entries + 1) change) c.in-Ok.ensures.state
    ∙ c.in-Ok.ensures.ok.makes)
