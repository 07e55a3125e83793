use Rattle.std.proofs.Common.{◌≡◌, ◌+◌, Some, sym, ap, subst, ◌∙◌, arith}
use Rattle.wf_names.specs.declared.ids.IdKind.TheVariants as kind
use Rattle.wf_machine.specs.declared.calling.Reply.TheVariants.{Id}
use Rattle.wf_machine.specs.State.{Flow}
use Rattle.wf_machine.specs.Flows.{flow_numbered}
use Rattle.wf_steps.specs.Calls.{Stepped, stepped, with_decided}
use Rattle.wf_core.specs.Changes.{IsPrepared}
use Rattle.wf_core.specs.Grown.{IsChanged}
use Rattle.wf_core.specs.Store.{Store}
use Rattle.wf_core.proofs.GrowLemmas.{if_ok, result_changed, result_taken, with_result}
use Rattle.wf_core.proofs.MadeLemmas.{number_fits, updated_by}
use Rattle.wf_core.proofs.steps.Core.prepare_result.Goals as goal

applied : (c : goal.After-prepare_changed-arg-1) → c.apply_result-taken.new.self.flow ≡ with_result c.args.moment c.args.outcome c.args.flow.flow c.requires.found.attempt
applied c =
    let taken = c.requires.found in
    result_taken c.args.task c.args.moment c.args.outcome c.args.flow.flow c.apply_result-taken.new.self.flow taken.attempt c.apply_result-taken.result
    taken.there taken.is_open taken.takes c.apply_result-taken.ensures.answer c.apply_result-taken.ensures.applied

pub prepare_changed-requires-clause-changed : goal.prepare_changed-requires-clause-changed
prepare_changed-requires-clause-changed c =
    let taken = c.requires.found in
    let s = c.args.self.now.state in
    subst (λ (f : Flow). IsChanged f s) (sym (applied c))
    (result_changed c.args.task c.args.moment c.args.outcome c.args.flow.flow taken.attempt s taken.old taken.found taken.same taken.rising)

pub prepare_changed-requires-clause-printable : goal.prepare_changed-requires-clause-printable
prepare_changed-requires-clause-printable c =
    let taken = c.requires.found in
    let s = c.args.self.now.state in
    let range = c.next_task-next_task.ensures.range.1 in
    let same = ap (λ (x : Store). x.state.next_task) c.self.view_is in
    number_fits s.next_task c.args.task c.args.flow.flow.attempts taken.attempt taken.rising (omega (arith, range, same)) taken.there

pub returns-clause-ok : goal.returns-clause-ok
returns-clause-ok c =
    let store = c.args.self.now in
    let s = store.state in
    let taken = c.requires.found in
    let f = c.args.flow.flow in
    let new = c.apply_result-taken.new.self.flow in
    let same : new ≡ with_result c.args.moment c.args.outcome f taken.attempt =
    result_taken c.args.task c.args.moment c.args.outcome f new taken.attempt c.apply_result-taken.result
    taken.there taken.is_open taken.takes c.apply_result-taken.ensures.answer c.apply_result-taken.ensures.applied in
    let found : flow_numbered new.number s.flows ≡ Some taken.old = ap (λ (g : Flow). flow_numbered g.number s.flows) same ∙ taken.found in
    let makes =
    ap (λ (g : Flow). stepped (with_decided store.limits (store.entries + 1) c.args.moment g new s) (Id kind.Task c.args.task.0)) taken.same
    ∙ ap (λ (g : Flow). stepped (with_decided store.limits (store.entries + 1) c.args.moment f g s) (Id kind.Task c.args.task.0)) same
    ∙ updated_by store.limits (store.entries + 1) c.args.moment c.args.task c.args.outcome f taken.attempt s taken.there taken.is_open taken.takes in
    if_ok _ _ c.prepare_changed.result
    (λ change h. subst (λ (made : Stepped). IsPrepared made store c.prepare_changed.new.self change) makes (h taken.old found))
    c.prepare_changed.ensures.ok
