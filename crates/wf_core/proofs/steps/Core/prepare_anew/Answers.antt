use Rattle.std.proofs.Common.{◌≡◌, ◌+◌, ◌≤◌, sym, ap, subst, ◌∙◌, arith}
use Rattle.wf_machine.specs.State.{RisingTo}
use Rattle.wf_steps.specs.Calls.{stepped, with_decided}
use Rattle.wf_core.specs.Store.{Store}
use Rattle.wf_core.proofs.DecidedLemmas.{decided_by}
use Rattle.wf_core.proofs.GrowLemmas.{anew_ready}
use Rattle.wf_core.proofs.steps.Core.prepare_anew.Goals as goal

pub decide_and_reserve-requires-clause-rising : goal.decide_and_reserve-requires-clause-rising
decide_and_reserve-requires-clause-rising c =
    let range = c.next_task-next_task.ensures.range.0 in
    let value = c.next_task-next_task.ensures.value in
    let low : 1 ≤ c.next_task-next_task.result = omega (arith, range, value) in
    subst (λ xs. RisingTo 1 c.next_task-next_task.result xs) (sym c.requires.emptied.none) low

pub returns-clause-ok : goal.returns-clause-ok
returns-clause-ok c before found =
    let store = c.args.self.now in
    let s = store.state in
    let flow = c.args.flow.flow in
    let next_task = c.next_task-next_task.result in
    let d = c.in_ok-decided.decided in
    let told = c.in_ok-decided.ensures in
    let h = told.decided in
    let next : next_task ≡ s.next_task = c.next_task-next_task.ensures.value ∙ ap (λ (x : Store). x.state.next_task) c.self.view_is in
    record {
      makes =
          ap (λ x. stepped x c.args.reply)
          (decided_by store.limits (store.entries + 1) c.args.moment before flow (record s { next_task = next_task }) h.turn d found h.is h.later h.told
          ∙ ap (λ n. with_decided store.limits (store.entries + 1) c.args.moment before.flow flow (record s { next_task = n })) next);
      ready = anew_ready flow next_task c.args.moment store c.decide_and_reserve.new.self d h told.state before found c.requires.emptied.none next;
      moment = c.requires.moment;
      printable = c.requires.printable;
    }
