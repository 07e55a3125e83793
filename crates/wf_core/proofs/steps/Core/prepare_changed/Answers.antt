use Rattle.std.proofs.Common.{◌≡◌, ◌+◌, sym, ap, subst, ◌∙◌}
use Rattle.wf_steps.specs.Calls.{stepped, with_decided}
use Rattle.wf_machine.specs.State.{Kept}
use Rattle.wf_core.specs.Changes.{IsPrepared}
use Rattle.wf_core.specs.Grown.{HasGrown}
use Rattle.wf_core.specs.Store.{Store}
use Rattle.wf_core.proofs.GrowLemmas.{changed_grown, if_ok}
use Rattle.wf_core.proofs.steps.Core.prepare_changed.Goals as goal

pub prepare_grown-requires-clause-grown : goal.prepare_grown-requires-clause-grown
prepare_grown-requires-clause-grown c =
    let s = c.args.self.now.state in
    let next : c.next_task-next_task.result ≡ s.next_task = c.next_task-next_task.ensures.value ∙ ap (λ (x : Store). x.state.next_task) c.self.view_is in
    subst (λ n. HasGrown c.args.flow.flow n s) (sym next) (changed_grown c.args.flow.flow s c.requires.changed)

pub returns-clause-ok : goal.returns-clause-ok
returns-clause-ok c =
    let store = c.args.self.now in
    let s = store.state in
    let flow = c.args.flow.flow in
    let next : c.next_task-next_task.result ≡ s.next_task = c.next_task-next_task.ensures.value ∙ ap (λ (x : Store). x.state.next_task) c.self.view_is in
    if_ok _ _ c.prepare_grown.result
    (λ change h (before : Kept) found.
    subst
    (λ n. IsPrepared (stepped (with_decided store.limits (store.entries + 1) c.args.moment before.flow flow (record s { next_task = n })) c.args.reply) store c.prepare_grown.new.self change)
    next (h before found))
    c.prepare_grown.ensures.ok
