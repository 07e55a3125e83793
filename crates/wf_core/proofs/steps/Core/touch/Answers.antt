use Rattle.std.proofs.Common.{refl, sym, subst}
use Rattle.wf_core.specs.Changes.{IsFlowAnew, IsOldFlow, IsReady}
use Rattle.wf_core.specs.Store.{Store, table_of}
use Rattle.wf_core.proofs.steps.Core.touch.Goals as goal

pub replace-requires-clause-grown : goal.replace-requires-clause-grown
replace-requires-clause-grown c =
    let ready = subst (λ t. IsReady t c.args.self.now) c.in-Flow.is c.requires.ready in
    let here = subst (λ (s : Store). IsOldFlow (table_of s) c.in-Flow.changed) (sym c.self-in-Flow.view_is) ready.0 in
    here.grown

pub replace_anew-requires-clause-anew : goal.replace_anew-requires-clause-anew
replace_anew-requires-clause-anew c =
    let ready = subst (λ t. IsReady t c.args.self.now) c.in-FlowAnew.is c.requires.ready in
    let here = subst (λ (s : Store). IsFlowAnew (table_of s) c.in-FlowAnew.changed) (sym c.self-in-FlowAnew.view_is) ready in
    here.anew

pub returns-in-Flow-clause-state : goal.returns-in-Flow-clause-state
returns-in-Flow-clause-state c =
    rw (
      c.in-Flow.is,
      ← c.self-in-Flow.view_is,
      c.note_hand.ensures.state,
      c.add_started-in-Flow.ensures.kept,
      c.add_started-in-Flow.ensures.next_flow,
      c.add_started-in-Flow.ensures.next_task,
      c.replace.ensures.kept,
      c.replace.ensures.next_flow,
      c.replace.ensures.next_task,
    )
    refl
