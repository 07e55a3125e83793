use Rattle.std.proofs.Common.{◌≡◌, ℕ, ◌+◌, ◌<◌, ◌≤◌, ◌^◌, length, None, refl, sym, ap, subst, ◌∙◌, arith}
use Rattle.wf_names.specs.declared.ids.IdKind.TheVariants as kind
use Rattle.wf_machine.specs.declared.calling.Reply.TheVariants.{Id}
use Rattle.wf_machine.specs.State.{Flow, State, RisingTo, new_flow}
use Rattle.wf_rules.specs.Acts.{Turn}
use Rattle.wf_rules.specs.Plans.{turn_at}
use Rattle.wf_rules.specs.Rules.{decide}
use Rattle.wf_rules.specs.Sight.{scene_in}
use Rattle.wf_rules.proofs.MakeLemmas.{rising_length}
use Rattle.wf_turn.specs.Growing.{IsLaterTurn}
use Rattle.wf_steps.specs.Calls.{stepped}
use Rattle.wf_kept.specs.Flows.{flow_number}
use Rattle.wf_kept.specs.Rising.{RisesTo}
use Rattle.wf_core.specs.declared.change.Touched.TheVariants.{NewFlow}
use Rattle.wf_core.specs.Changes.{touched}
use Rattle.wf_core.specs.Store.{Store, table_of}
use Rattle.wf_core.proofs.DecidedLemmas.{started_by}
use Rattle.wf_core.proofs.GrowLemmas.{new_ready}
use Rattle.wf_core.proofs.steps.Core.prepare_flow.Goals as goal

pub overflow_add-kept : goal.overflow_add-kept
overflow_add-kept c =
    let room = c.requires.room in
    let most = c.args.self.now.limits.flows_in_range in
    let kept : c.len.result ≡ length c.args.self.now.state.flows = c.len.ensures ∙ ap (λ (x : Store). length x.state.flows) c.self.view_is in
    omega (arith, room, most, kept)

pub decide-requires-clause-rising : goal.decide-requires-clause-rising
decide-requires-clause-rising c =
    let range = c.next_task-next_task.ensures.range.0 in
    let value = c.next_task-next_task.ensures.value in
    let low : 1 ≤ c.next_task-next_task.result = omega (arith, range, value) in
    subst (λ (f : Flow). RisingTo 1 c.next_task-next_task.result f.attempts) (sym c.new-flow.ensures) low

pub reserve-requires-clause-higher : goal.reserve-requires-clause-higher
reserve-requires-clause-higher c =
    let h = c.in_ok-turn.ensures.later.attempts in
    let more = rising_length c.next_task-next_task.result c.in_ok-turn.turn.next_task h.more h.rising in
    let same = c.next_task-next_task.ensures.value ∙ ap (λ (x : Store). x.state.next_task) c.self.view_is in
    omega (arith, more, same)

pub returns-clause-ok : goal.returns-clause-ok
returns-clause-ok c =
    let store = c.args.self.now in
    let s = store.state in
    let number = c.next_flow-number.result in
    let next = c.next_task-next_task.result in
    let turn = c.in_ok-turn.turn in
    let d = c.in_ok-decided.decided in
    let told = c.in_ok-decided.ensures in
    let new = c.reserve.new.self in
    let begun : ℕ → Flow = λ n. new_flow (record { 0 = n }) c.args.def c.args.input c.args.correlation None 0 c.args.moment in
    let start : ℕ → Turn = λ n. turn_at (begun n) (record { flow = n + 1; task = s.next_task }) in
    let same : number ≡ s.next_flow = c.next_flow-number.ensures.value ∙ ap (λ (x : Store). x.state.next_flow) c.self.view_is in
    let same_next : next ≡ s.next_task = c.next_task-next_task.ensures.value ∙ ap (λ (x : Store). x.state.next_task) c.self.view_is in
    let kept : c.len.result ≡ length s.flows = c.len.ensures ∙ ap (λ (x : Store). length x.state.flows) c.self.view_is in
    let is : turn ≡ decide store.limits (scene_in s (begun s.next_flow)) (length s.flows + 1) c.args.moment (start s.next_flow) =
    c.in_ok-turn.ensures.turn
    ∙ ap (λ f. decide store.limits (scene_in s f) (c.len.result + 1) c.args.moment (turn_at f (record { flow = number + 1; task = next }))) c.new-flow.ensures
    ∙ ap (λ n. decide store.limits (scene_in s (begun number)) (c.len.result + 1) c.args.moment (turn_at (begun number) (record { flow = number + 1; task = n }))) same_next
    ∙ ap (λ n. decide store.limits (scene_in s (begun n)) (c.len.result + 1) c.args.moment (start n)) same
    ∙ ap (λ n. decide store.limits (scene_in s (begun s.next_flow)) (n + 1) c.args.moment (start s.next_flow)) kept in
    let later : IsLaterTurn (start s.next_flow) turn =
    subst (λ n. IsLaterTurn (start n) turn) same
    (subst (λ n. IsLaterTurn (turn_at (begun number) (record { flow = number + 1; task = n })) turn) same_next
    (subst (λ f. IsLaterTurn (turn_at f (record { flow = number + 1; task = next })) turn) c.new-flow.ensures c.in_ok-turn.ensures.later)) in
    let same_flow : s.next_flow ≡ new.state.next_flow = ap (λ (x : State). x.next_flow) (sym told.state) in
    let same_task : s.next_task ≡ new.state.next_task = ap (λ (x : State). x.next_task) (sym told.state) in
    let rising = subst (λ (x : Store). RisesTo flow_number 1 x.state.next_flow x.state.flows) c.self.view_is c.as_slice-rising.ensures.rising in
    let tasks = told.tasks in
    record {
      makes =
          ap (λ n. stepped (touched (store.entries + 1) c.args.moment (NewFlow d) s) (Id kind.Flow n)) same
          ∙ started_by store.limits (store.entries + 1) c.args.moment c.args.def c.args.input c.args.correlation s turn d rising is later told.decided;
      ready = new_ready (table_of new) (start s.next_flow) turn d refl refl same_flow (ap (λ n. n + 1) same_flow) same_task later
          told.decided c.in_ok-turn.ensures.last.0 c.in_ok-turn.ensures.last.1 told.flows (omega (arith, tasks, same_task));
      moment = c.requires.moment;
      printable = subst (λ n. n < 2 ^ 56) (sym same) c.requires.number;
    }
