use Rattle.std.proofs.Common.{◌≡◌, ◌+◌, Some, Result, Ok, Err, IfOk, ap, sym, subst, ◌∙◌}
use Rattle.std.specs.List.{All}
use Rattle.wf_machine.specs.State.{Flow, attempt_numbered}
use Rattle.wf_steps.specs.Calls.{Stepped, hand_over, poll}
use Rattle.wf_machine.specs.Queues.{Waiting, next_waiting}
use Rattle.wf_kept.specs.Flows.{AreAttemptsBelow, flow_number}
use Rattle.wf_kept.specs.Rising.{RisesTo}
use Rattle.wf_core.specs.Changes.{IsPrepared}
use Rattle.wf_core.specs.Grown.{IsOffered}
use Rattle.wf_core.specs.Store.{Store}
use Rattle.wf_core.proofs.FoundLemmas.{IsWaiting, found_waits}
use Rattle.wf_core.proofs.MadeLemmas.{polled}
use Rattle.wf_core.proofs.steps.Core.prepare_poll.Goals as goal

pub prepare_hand_out-requires-clause-offered : goal.prepare_hand_out-requires-clause-offered
prepare_hand_out-requires-clause-offered c =
    let s = c.args.self.now.state in
    let w : Waiting = record { flow = c.in-Some.found.0.now.flow; attempt = c.in-Some.found.1.now } in
    let rises = subst (λ (x : Store). RisesTo flow_number 1 x.state.next_flow x.state.flows) c.self.view_is c.as_slice.ensures.rising in
    let below = subst (λ (x : Store). All (AreAttemptsBelow x.state.next_task) x.state.flows) c.self.view_is c.as_slice.ensures.attempts in
    let next : next_waiting c.as_str.result.now c.args.moment s.flows ≡ Some w =
    sym (ap (next_waiting c.as_str.result.now c.args.moment) (c.as_slice.ensures.value ∙ ap (λ (x : Store). x.state.flows) c.self.view_is)) ∙ sym c.in-Some.ensures in
    let waits : IsWaiting s w = found_waits c.as_str.result.now c.args.moment s w rises below next in
    let offered : IsOffered w.attempt.number w.flow s = record {
      old = waits.old;
      found = waits.found;
      same = waits.same;
      rising = waits.rising;
      attempt = w.attempt;
      there = waits.there;
      scheduled = waits.scheduled;
    } in
    subst (λ n. IsOffered n c.in_ok-flow.flow.flow s) (sym c.number-task.ensures) (subst (λ (f : Flow). IsOffered w.attempt.number f s) (sym c.in_ok-flow.ensures) offered)

-- what holds of each result holds of the one that there is
if_ok : {A E : Type 0} (P Q : A → Type 0) (r : Result A E) → ((x : A) → P x → Q x) → IfOk r P → IfOk r Q
if_ok P Q (Ok x) f h = f x h
if_ok P Q (Err e) f h = tt

pub returns-clause-ok : goal.returns-clause-ok
returns-clause-ok c =
    let store = c.args.self.now in
    let s = store.state in
    let place = store.entries + 1 in
    let flow = c.in_ok-flow.flow.flow in
    let w : Waiting = record { flow = c.in-Some.found.0.now.flow; attempt = c.in-Some.found.1.now } in
    let rises = subst (λ (x : Store). RisesTo flow_number 1 x.state.next_flow x.state.flows) c.self.view_is c.as_slice.ensures.rising in
    let below = subst (λ (x : Store). All (AreAttemptsBelow x.state.next_task) x.state.flows) c.self.view_is c.as_slice.ensures.attempts in
    let next : next_waiting c.as_str.result.now c.args.moment s.flows ≡ Some w =
    sym (ap (next_waiting c.as_str.result.now c.args.moment) (c.as_slice.ensures.value ∙ ap (λ (x : Store). x.state.flows) c.self.view_is)) ∙ sym c.in-Some.ensures in
    let waits : IsWaiting s w = found_waits c.as_str.result.now c.args.moment s w rises below next in
    let there : attempt_numbered c.number-task.result flow.attempts ≡ Some w.attempt =
    ap (λ n. attempt_numbered n flow.attempts) c.number-task.ensures ∙ ap (λ (f : Flow). attempt_numbered w.attempt.number f.attempts) c.in_ok-flow.ensures ∙ waits.there in
    let named : next_waiting c.args.name c.args.moment s.flows ≡ Some w = subst (λ n. next_waiting n c.args.moment s.flows ≡ Some w) c.as_str.ensures.bytes next in
    let makes : hand_over place c.args.moment c.args.name c.args.worker (record { flow = flow; attempt = w.attempt }) s ≡ poll place c.args.moment c.args.name c.args.worker s =
    ap (λ f. hand_over place c.args.moment c.args.name c.args.worker (record { flow = f; attempt = w.attempt }) s) c.in_ok-flow.ensures
    ∙ sym (polled place c.args.moment c.args.name c.args.worker s w named) in
    if_ok _ (IsPrepared (poll place c.args.moment c.args.name c.args.worker s) store c.prepare_hand_out.new.self) c.prepare_hand_out.result
    (λ change h. subst (λ (made : Stepped). IsPrepared made store c.prepare_hand_out.new.self change) makes (h w.attempt there))
    c.prepare_hand_out.ensures.ok
