use Rattle.std.proofs.Common.{◌∙◌, sym}
use Rattle.wf_kept.proofs.HandLemmas.{hands_at, hands_gap}
use Rattle.wf_kept.proofs.hands.HandBook.moments.Goals as goal

pub returns-in-Ok : goal.returns-in-Ok
returns-in-Ok c =
    let there = rw c.deref.ensures.value at c.in-Ok.ensures.found in
    rw (← c.self.view_is) (c.noted.ensures ∙ sym (hands_at c.args.name.now _ c.in-Ok.place _ c.self.invariant there c.index.ensures))

pub returns-in-Err : goal.returns-in-Err
returns-in-Err c = rw (← c.self.view_is) (sym (hands_gap c.args.name.now _ _ (rw c.deref.ensures.value at c.in-Err.ensures.gap)))
