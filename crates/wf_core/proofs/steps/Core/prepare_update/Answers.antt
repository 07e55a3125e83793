use Rattle.std.proofs.Common.{◌≡◌, ◌+◌, true, false, Some, refl, ap, sym, subst, ◌∙◌, arith}
use Rattle.wf_names.specs.declared.ids.IdKind.TheVariants as kind
use Rattle.wf_names.specs.TaskStatus.{task_is_open}
use Rattle.wf_machine.specs.declared.calling.Reply.TheVariants.{Id}
use Rattle.wf_machine.specs.State.{Flow}
use Rattle.wf_machine.specs.Flows.{flow_of_task}
use Rattle.wf_steps.specs.Calls.{is_wanted, stepped}
use Rattle.wf_machine.specs.Records.{IsMoment, is_kind_at}
use Rattle.wf_machine.specs.Replies.{IsPrintable}
use Rattle.wf_machine.specs.Tasks.{takes_update}
use Rattle.wf_kept.specs.Flows.{IsKeptIn, kept}
use Rattle.wf_core.specs.Changes.{IsReady, touched}
use Rattle.wf_core.specs.Grown.{IsTaken}
use Rattle.wf_core.specs.Store.{Store, table_of}
use Rattle.wf_core.proofs.MadeLemmas.{update_ended}
use Rattle.wf_core.proofs.steps.Core.prepare_update.Goals as goal

pub returns-then-not-is_open-clause-ok : goal.returns-then-not-is_open-clause-ok
returns-then-not-is_open-clause-ok c =
    let store = c.args.self.now in
    let k = kept c.in-Some.kept.now in
    let a = c.in-Some-attempt.attempt.now in
    let change = c.none-then-not-is_open.result in
    let told = c.none-then-not-is_open.ensures in
    let found : flow_of_task c.args.task store.state.flows ≡ Some k =
    sym (ap (λ (x : Store). flow_of_task c.args.task x.state.flows) c.self.view_is) ∙ sym c.in-Some.ensures.flow in
    let own : is_wanted c.args.wanted k.flow.number ≡ true = grind (arith, c.if-not-is_wanted.false, c.is_wanted.ensures, c.number.ensures) in
    let ended : task_is_open a.status ≡ false = grind (arith, c.if-not-is_open.true, c.is_open.ensures, c.status.ensures) in
    let reply : change.reply ≡ Id kind.Task a.number.0 = told.reply ∙ ap (λ n. Id kind.Task n.0) c.number-then-not-is_open.ensures in
    record {
      makes =
          ap (λ t. stepped (touched (store.entries + 1) change.moment t store.state) change.reply) told.touched ∙ ap (stepped store.state) reply
          ∙ sym (update_ended store.limits (store.entries + 1) c.args.moment c.args.wanted c.args.task c.args.outcome store.state k a found (sym c.in-Some-attempt.ensures) ended own);
      ready = subst (λ t. IsReady t store) (sym told.touched) tt;
      moment = subst IsMoment (sym told.moment) (omega arith);
      printable = subst IsPrintable (sym reply) c.in_range.ensures.number;
    }

pub prepare_result-requires-clause-found : goal.prepare_result-requires-clause-found
prepare_result-requires-clause-found c =
    let store = c.args.self.now in
    let k = kept c.in-Some.kept.now in
    let a = c.in-Some-attempt.attempt.now in
    let itself = subst (λ (x : Store). IsKeptIn (table_of x) k) c.self.view_is c.in-Some.ensures.itself in
    let is_open : task_is_open a.status ≡ true = grind (arith, c.if-not-is_open.false, c.is_open.ensures, c.status.ensures) in
    let takes : is_kind_at takes_update k.flow.def a.node ≡ true = grind (arith, c.if-not-takes_update_at.false, c.takes_update_at.ensures, c.def.ensures, c.node.ensures) in
    let taken : IsTaken c.args.task k.flow store.state = record {
      old = k;
      found = itself.itself;
      same = refl;
      rising = itself.attempts;
      attempt = a;
      there = sym c.in-Some-attempt.ensures;
      is_open = is_open;
      takes = takes;
    } in
    subst (λ (f : Flow). IsTaken c.args.task f store.state) (sym c.in_ok-flow.ensures) taken
