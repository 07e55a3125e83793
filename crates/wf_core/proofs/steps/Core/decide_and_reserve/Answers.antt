use Rattle.std.proofs.Common.{◌≡◌, ◌+◌, ◌≤◌, length, ap, subst, ◌∙◌, arith}
use Rattle.wf_rules.specs.Plans.{turn_at}
use Rattle.wf_rules.specs.Rules.{decide}
use Rattle.wf_rules.specs.Sight.{scene_in}
use Rattle.wf_rules.proofs.MakeLemmas.{rising_length}
use Rattle.wf_turn.specs.Growing.{IsLaterTurn}
use Rattle.wf_steps.specs.Calls.{decided}
use Rattle.wf_core.specs.Grown.{IsDecided, IsTold}
use Rattle.wf_core.specs.Store.{Store}
use Rattle.wf_core.proofs.GrowLemmas.{if_all}
use Rattle.wf_core.proofs.steps.Core.decide_and_reserve.Goals as goal

pub reserve-requires-clause-higher : goal.reserve-requires-clause-higher
reserve-requires-clause-higher c =
    let h = c.in_ok-turn.ensures.later.attempts in
    let more = rising_length c.args.next_task c.in_ok-turn.turn.next_task h.more h.rising in
    let order = c.requires.order in
    omega (arith, more, order)

pub returns-clause-decided : goal.returns-clause-decided
returns-clause-decided c =
    let store = c.args.self.now in
    let s = store.state in
    let flow = c.args.flow.flow in
    let next_task = c.args.next_task in
    let turn = c.in_ok-turn.turn in
    let new = c.reserve.new.self in
    let kept : c.len-kept.result ≡ length s.flows = c.len-kept.ensures ∙ ap (λ (x : Store). length x.state.flows) c.self.view_is in
    let next : c.next_flow.result ≡ s.next_flow = c.next_flow.ensures.value ∙ ap (λ (x : Store). x.state.next_flow) c.self.view_is in
    let is : turn ≡ decided store.limits c.args.moment flow (record s { next_task = next_task }) =
    c.in_ok-turn.ensures.turn
    ∙ ap (λ n. decide store.limits (scene_in s flow) n c.args.moment (turn_at flow (record { flow = c.next_flow.result; task = next_task }))) kept
    ∙ ap (λ n. decide store.limits (scene_in s flow) (length s.flows) c.args.moment (turn_at flow (record { flow = n; task = next_task }))) next in
    let later : IsLaterTurn (turn_at flow (record { flow = s.next_flow; task = next_task })) turn =
    subst (λ n. IsLaterTurn (turn_at flow (record { flow = n; task = next_task })) turn) next c.in_ok-turn.ensures.later in
    if_all (λ d. IsTold turn d) (λ d. 0 + length d.started.items ≤ new.rooms.flows) (λ d. d.next_task ≤ new.rooms.tasks + s.next_task)
    (IsDecided flow next_task c.args.moment store new) c.reserve.result
    (λ d told flows tasks. record {
      turn = turn;
      is = is;
      later = later;
      told = told;
      tasks = c.in_ok-turn.ensures.last.0;
      flows = c.in_ok-turn.ensures.last.1;
      room_flows = omega (arith, flows);
      room_tasks = tasks;
    })
    c.reserve.ensures.decided c.reserve.ensures.flows c.reserve.ensures.tasks
