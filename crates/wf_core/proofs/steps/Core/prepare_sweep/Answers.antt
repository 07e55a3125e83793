use Rattle.std.proofs.Common.{◌≡◌, ◌+◌, Some, sym, ap, subst, ◌∙◌}
use Rattle.std.specs.List.{All}
use Rattle.std.specs.Option.{option_copied, option_map}
use Rattle.wf_names.specs.declared.ids.FlowNo.{FlowNo}
use Rattle.wf_names.specs.declared.ids.IdKind.TheVariants as kind
use Rattle.wf_machine.specs.declared.calling.Reply.TheVariants.{Id}
use Rattle.wf_machine.specs.State.{Flow}
use Rattle.wf_machine.specs.Flows.{flow_numbered}
use Rattle.wf_steps.specs.Calls.{Stepped, needs, stepped, with_decided}
use Rattle.wf_kept.specs.Flows.{AreAttemptsBelow, flow_number, kept}
use Rattle.wf_kept.specs.Rising.{RisesTo}
use Rattle.wf_core.specs.Changes.{IsPrepared}
use Rattle.wf_core.specs.Store.{Store}
use Rattle.wf_core.proofs.GrowLemmas.{if_ok}
use Rattle.wf_core.proofs.MadeLemmas.{needs_changed, needs_itself, swept_kept}
use Rattle.wf_core.proofs.steps.Core.prepare_sweep.Goals as goal

pub prepare_changed-requires-clause-changed : goal.prepare_changed-requires-clause-changed
prepare_changed-requires-clause-changed c =
    let rising = subst (λ (x : Store). RisesTo flow_number 1 x.state.next_flow x.state.flows) c.self.view_is c.as_slice-rising.ensures.rising in
    let below = subst (λ (x : Store). All (AreAttemptsBelow x.state.next_task) x.state.flows) c.self.view_is c.as_slice-rising.ensures.attempts in
    let found : needs c.args.self.now.limits c.args.moment c.args.self.now.state ≡ Some (kept c.in-Some.kept.now) =
    sym c.in_ok-needing.ensures ∙ ap (λ o. option_map kept (option_copied o)) c.in-Some.is in
    needs_changed c.args.self.now.limits c.args.moment c.args.self.now.state (kept c.in-Some.kept.now) c.in_ok-flow.flow.flow rising below found c.in_ok-flow.ensures

pub returns-clause-ok : goal.returns-clause-ok
returns-clause-ok c =
    let store = c.args.self.now in
    let s = store.state in
    let k = kept c.in-Some.kept.now in
    let rising = subst (λ (x : Store). RisesTo flow_number 1 x.state.next_flow x.state.flows) c.self.view_is c.as_slice-rising.ensures.rising in
    let found : needs store.limits c.args.moment s ≡ Some k = sym c.in_ok-needing.ensures ∙ ap (λ o. option_map kept (option_copied o)) c.in-Some.is in
    let itself : flow_numbered c.in_ok-flow.flow.flow.number s.flows ≡ Some k =
    ap (λ (f : Flow). flow_numbered f.number s.flows) c.in_ok-flow.ensures ∙ needs_itself store.limits c.args.moment s k rising found in
    let makes =
    ap (λ (n : FlowNo). stepped (with_decided store.limits (store.entries + 1) c.args.moment k.flow c.in_ok-flow.flow.flow s) (Id kind.Flow n.0)) c.number-number.ensures
    ∙ swept_kept store.limits (store.entries + 1) c.args.moment s k c.in_ok-flow.flow.flow found c.in_ok-flow.ensures in
    if_ok _ _ c.prepare_changed.result
    (λ change h. subst (λ (made : Stepped). IsPrepared made store c.prepare_changed.new.self change) makes (h k itself))
    c.prepare_changed.ensures.ok
