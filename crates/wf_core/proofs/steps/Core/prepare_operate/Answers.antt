use Rattle.std.proofs.Common.{◌≡◌, ◌+◌, Some, sym, ap, subst, ◌∙◌}
use Rattle.std.specs.List.{All}
use Rattle.wf_machine.specs.Flows.{flow_numbered, is_flow}
use Rattle.wf_steps.specs.Calls.{Stepped}
use Rattle.wf_kept.specs.Flows.{AreAttemptsBelow, flow_number, kept}
use Rattle.wf_kept.specs.Rising.{RisesTo}
use Rattle.wf_core.specs.Changes.{IsPrepared}
use Rattle.wf_core.specs.Store.{Store}
use Rattle.wf_core.proofs.FoundLemmas.{kept_copied}
use Rattle.wf_core.proofs.GrowLemmas.{if_ok}
use Rattle.wf_core.proofs.OperateLemmas.{operate_found}
use Rattle.wf_core.proofs.steps.Core.prepare_operate.Goals as goal

pub prepare_operation-requires-clause-copied : goal.prepare_operation-requires-clause-copied
prepare_operation-requires-clause-copied c =
    let rising = subst (λ (x : Store). RisesTo flow_number 1 x.state.next_flow x.state.flows) c.self.view_is c.as_slice-rising.ensures.rising in
    let below = subst (λ (x : Store). All (AreAttemptsBelow x.state.next_task) x.state.flows) c.self.view_is c.as_slice-rising.ensures.attempts in
    let found = sym (ap (λ (x : Store). flow_numbered c.args.number x.state.flows) c.self.view_is) ∙ sym c.in-Some.ensures in
    kept_copied c.args.self.now.state (is_flow c.args.number) (kept c.in-Some.kept.now) c.in_ok-flow.flow.flow rising below found c.in_ok-flow.ensures

pub returns-clause-ok : goal.returns-clause-ok
returns-clause-ok c =
    let store = c.args.self.now in
    let s = store.state in
    let k = kept c.in-Some.kept.now in
    let found : flow_numbered c.args.number s.flows ≡ Some k = sym (ap (λ (x : Store). flow_numbered c.args.number x.state.flows) c.self.view_is) ∙ sym c.in-Some.ensures in
    let makes = operate_found store.limits (store.entries + 1) c.args.moment c.args.number c.args.operation s k c.in_ok-flow.flow.flow found c.in_ok-flow.ensures in
    if_ok _ _ c.prepare_operation.result
    (λ change h. subst (λ (made : Stepped). IsPrepared made store c.prepare_operation.new.self change) makes h)
    c.prepare_operation.ensures.ok
