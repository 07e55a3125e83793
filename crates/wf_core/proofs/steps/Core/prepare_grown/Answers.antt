use Rattle.std.proofs.Common.{◌≡◌, ◌+◌, Some, sym, ap, subst, ◌∙◌, arith}
use Rattle.wf_machine.specs.State.{Kept}
use Rattle.wf_rules.proofs.MakeLemmas.{rising_length}
use Rattle.wf_steps.specs.Calls.{stepped}
use Rattle.wf_kept.specs.Flows.{IsGrown}
use Rattle.wf_core.proofs.DecidedLemmas.{decided_by}
use Rattle.wf_core.proofs.GrowLemmas.{old_ready}
use Rattle.wf_core.proofs.steps.Core.prepare_grown.Goals as goal

pub decide_and_reserve-requires-clause-order : goal.decide_and_reserve-requires-clause-order
decide_and_reserve-requires-clause-order c =
    let h = c.requires.grown.grown in
    let more = rising_length c.args.self.now.state.next_task c.args.next_task h.more h.rising in
    omega (arith, more)

pub returns-clause-ok : goal.returns-clause-ok
returns-clause-ok c before found =
    let store = c.args.self.now in
    let s = store.state in
    let flow = c.args.flow.flow in
    let next_task = c.args.next_task in
    let d = c.in_ok-decided.decided in
    let told = c.in_ok-decided.ensures in
    let h = told.decided in
    let was : Some c.requires.grown.old ≡ Some before = sym c.requires.grown.found ∙ found in
    let same : c.requires.grown.old ≡ before = cc in
    let grown = subst (λ (k : Kept). IsGrown k.flow.attempts flow.attempts s.next_task next_task) same c.requires.grown.grown in
    record {
      makes = ap (λ x. stepped x c.args.reply) (decided_by store.limits (store.entries + 1) c.args.moment before flow (record s { next_task = next_task }) h.turn d found h.is h.later h.told);
      ready = (old_ready flow next_task c.args.moment store c.decide_and_reserve.new.self d h told.state before found grown, tt);
      moment = c.requires.moment;
      printable = c.requires.printable;
    }
