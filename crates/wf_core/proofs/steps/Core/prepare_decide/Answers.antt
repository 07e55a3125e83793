use Rattle.std.proofs.Common.{◌≡◌, ◌+◌, Some, sym, ap, subst, ◌∙◌}
use Rattle.std.specs.List.{All}
use Rattle.wf_machine.specs.State.{Flow}
use Rattle.wf_machine.specs.Flows.{flow_numbered}
use Rattle.wf_steps.specs.Calls.{Stepped, is_settled}
use Rattle.wf_kept.specs.Flows.{AreAttemptsBelow, flow_number, kept}
use Rattle.wf_kept.specs.Rising.{RisesTo}
use Rattle.wf_core.specs.Changes.{IsPrepared}
use Rattle.wf_core.specs.Store.{Store}
use Rattle.wf_core.proofs.FoundLemmas.{kept_changed}
use Rattle.wf_core.proofs.GrowLemmas.{if_ok}
use Rattle.wf_core.proofs.MadeLemmas.{decided_kept, number_itself}
use Rattle.wf_machine.specs.Flows.{is_flow}
use Rattle.std.proofs.Common.{false}
use Rattle.wf_core.proofs.steps.Core.prepare_decide.Goals as goal

found_so : (c : goal.After-prepare_changed-arg-1) → flow_numbered c.args.number c.args.self.now.state.flows ≡ Some (kept c.in-Some.kept.now)
found_so c = sym (ap (λ (x : Store). flow_numbered c.args.number x.state.flows) c.self.view_is) ∙ sym c.in-Some.ensures

pub prepare_changed-requires-clause-changed : goal.prepare_changed-requires-clause-changed
prepare_changed-requires-clause-changed c =
    let rising = subst (λ (x : Store). RisesTo flow_number 1 x.state.next_flow x.state.flows) c.self.view_is c.as_slice-rising.ensures.rising in
    let below = subst (λ (x : Store). All (AreAttemptsBelow x.state.next_task) x.state.flows) c.self.view_is c.as_slice-rising.ensures.attempts in
    kept_changed c.args.self.now.state (is_flow c.args.number) (kept c.in-Some.kept.now) c.in_ok-flow.flow.flow rising below (found_so c) c.in_ok-flow.ensures

pub returns-clause-ok : goal.returns-clause-ok
returns-clause-ok c =
    let store = c.args.self.now in
    let s = store.state in
    let k = kept c.in-Some.kept.now in
    let rising = subst (λ (x : Store). RisesTo flow_number 1 x.state.next_flow x.state.flows) c.self.view_is c.as_slice-rising.ensures.rising in
    let found : flow_numbered c.args.number s.flows ≡ Some k = sym (ap (λ (x : Store). flow_numbered c.args.number x.state.flows) c.self.view_is) ∙ sym c.in-Some.ensures in
    let settled : is_settled store.limits c.args.moment s k.flow ≡ false = sym c.in_ok-is_settled.ensures ∙ c.if-branch.false in
    let itself : flow_numbered c.in_ok-flow.flow.flow.number s.flows ≡ Some k = ap (λ (f : Flow). flow_numbered f.number s.flows) c.in_ok-flow.ensures ∙ number_itself c.args.number s k rising found in
    let makes = decided_kept store.limits (store.entries + 1) c.args.moment c.args.number s k c.in_ok-flow.flow.flow found c.in_ok-flow.ensures settled in
    if_ok _ _ c.prepare_changed.result
    (λ change h. subst (λ (made : Stepped). IsPrepared made store c.prepare_changed.new.self change) makes (h k itself))
    c.prepare_changed.ensures.ok
