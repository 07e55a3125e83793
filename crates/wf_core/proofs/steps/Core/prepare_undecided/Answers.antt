use Rattle.std.proofs.Common.{◌≡◌, ◌+◌, [], Some, length, refl, sym, ap, subst, ◌∙◌, arith}
use Rattle.wf_machine.specs.State.{Kept}
use Rattle.wf_steps.specs.Calls.{stepped}
use Rattle.wf_kept.specs.Flows.{IsGrown, attempt_number}
use Rattle.std.proofs.Common.{map}
use Rattle.wf_core.specs.declared.change.Decided.{Decided}
use Rattle.wf_core.specs.Store.{Store, table_of}
use Rattle.wf_core.proofs.GrowLemmas.{grown_ready, grown_same, none_started}
use Rattle.wf_core.proofs.OperateLemmas.{undecided_as}
use Rattle.wf_core.proofs.steps.Core.prepare_undecided.Goals as goal

pub returns : goal.returns
returns c before found =
    let store = c.args.self.now in
    let s = store.state in
    let flow = c.args.flow.flow in
    let next = c.next_task.result in
    let d : Decided = record { flow = c.args.flow; started = c.new.result; next_task = next } in
    let table = table_of store in
    let same : next ≡ s.next_task = c.next_task.ensures.value ∙ ap (λ (x : Store). x.state.next_task) c.self.view_is in
    let none : d.started.items ≡ [] = c.new.ensures.items in
    let was : Some c.requires.changed.old ≡ Some before = sym c.requires.changed.found ∙ found in
    let old : c.requires.changed.old ≡ before = cc in
    let numbers : map attempt_number flow.attempts ≡ map attempt_number before.flow.attempts =
    c.requires.changed.numbers ∙ ap (λ (k : Kept). map attempt_number k.flow.attempts) old in
    let grown : IsGrown before.flow.attempts flow.attempts table.next_task next =
    subst (λ n. IsGrown before.flow.attempts flow.attempts n next) same (grown_same before.flow.attempts flow.attempts next numbers) in
    let range = c.next_task.ensures.range.1 in
    let count = ap length none in
    let flows = c.next_flow-next_flow.ensures.range.1 in
    let last = c.next_flow-next_flow.ensures.value ∙ ap (λ (x : Store). x.state.next_flow) c.self.view_is in
    let value = c.next_flow-next_flow.ensures.value in
    let next_value = c.next_task.ensures.value in
    record {
      makes = ap (λ x. stepped x c.args.reply) (undecided_as (store.entries + 1) c.args.moment s d flow before refl none same found);
      ready = (
        grown_ready table before d found grown (omega (arith, range, next_value)) (none_started table.next_flow d none) (omega (arith, count, flows, last, value)) (omega (arith, count)) (omega (arith, same)),
        tt,
      );
      moment = c.requires.moment;
      printable = c.requires.printable;
    }
