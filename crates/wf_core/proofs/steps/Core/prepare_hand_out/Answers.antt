use Rattle.std.proofs.lemmas.Result.{err_from_is_err_and}
use Rattle.std.proofs.Common.{◌≡◌, ◌+◌, [], Some, IsSomeAnd, length, ap, sym, subst, ◌∙◌, arith}
use Rattle.wf_machine.specs.State.{Flow}
use Rattle.wf_machine.specs.Flows.{flow_numbered}
use Rattle.wf_machine.specs.Tasks.{handed_out}
use Rattle.wf_kept.specs.Flows.{IsGrown}
use Rattle.wf_kept.specs.Hands.{HasHandRoom}
use Rattle.wf_core.specs.declared.change.Decided.{Decided}
use Rattle.wf_core.specs.Store.{Store}
use Rattle.wf_core.proofs.GrowLemmas.{grown_ready, grown_with, none_started}
use Rattle.wf_core.proofs.MadeLemmas.{handed_by, with_hand_out}
use Rattle.wf_core.proofs.steps.Core.prepare_hand_out.Goals as goal

pub returns-clause-ok : goal.returns-clause-ok
returns-clause-ok c a there =
    let store = c.args.self.now in
    let offered = c.requires.offered in
    let f = c.args.flow.flow in
    let flow = c.hand_out.new.self.flow in
    let next = c.next_task.result in
    let d : Decided = record { flow = c.hand_out.new.self; started = c.new.result; next_task = c.next_task.result } in
    let table = c.self.inside.flows in
    let handed : flow ≡ with_hand_out c.args.moment c.args.worker f a =
    subst (λ o. IsSomeAnd o (λ x. flow ≡ with_hand_out c.args.moment c.args.worker f x)) there c.hand_out.ensures.flow in
    let same : next ≡ store.state.next_task = c.next_task.ensures.value ∙ ap (λ (x : Store). x.state.next_task) c.self.view_is in
    let found : flow_numbered flow.number table.kept ≡ Some offered.old =
    ap (λ (x : Flow). flow_numbered x.number table.kept) handed ∙ ap (λ (x : Store). flow_numbered f.number x.state.flows) c.self.view_is ∙ offered.found in
    let value = c.next_task.ensures.value in
    let none : d.started.items ≡ [] = c.new.ensures.items in
    let grown : IsGrown offered.old.flow.attempts flow.attempts table.next_task next =
    subst (λ (x : Flow). IsGrown x.attempts flow.attempts table.next_task next) (sym offered.same)
    (subst (λ (x : Flow). IsGrown f.attempts x.attempts table.next_task next) (sym handed)
    (subst (λ n. IsGrown f.attempts (with_hand_out c.args.moment c.args.worker f a).attempts n next) value
    (grown_with (handed_out c.args.moment c.args.worker a) f.attempts next))) in
    let range = c.next_task.ensures.range.1 in
    let count = ap length none in
    let flows = c.next_flow-next_flow.ensures.range.1 in
    record {
      makes = handed_by (store.entries + 1) c.args.moment c.args.name c.args.worker c.args.task f a store.state d c.self.inside.mark c.in_ok-reply.reply offered.old
          there handed none same (ap (λ (x : Store). x.state.mark) c.self.view_is) c.in_ok-reply.ensures.reply offered.found offered.same;
      ready = (
        grown_ready table offered.old d found grown (omega (arith, range, value)) (none_started table.next_flow d none) (omega (arith, count, flows)) (omega (arith, count)) (omega (arith, value)),
        subst (λ n. HasHandRoom n c.reserve.new.self) c.as_str.ensures.bytes c.in_ok-reserve.ensures.room,
      );
      moment = c.requires.moment;
      printable = c.in_ok-reply.ensures.printable;
    }

pub returns-in_err-reserve-clause-ok : goal.returns-in_err-reserve-clause-ok
returns-in_err-reserve-clause-ok c = let p = err_from_is_err_and c.from_residual.result c.from_residual.ensures.1 in rw p.1 tt

pub returns-in_err-reply-clause-ok : goal.returns-in_err-reply-clause-ok
returns-in_err-reply-clause-ok c = let p = err_from_is_err_and c.from_residual-in_err-reply.result c.from_residual-in_err-reply.ensures.1 in rw p.1 tt
