use Rattle.std.proofs.Common.{subst, sym}
use Rattle.wf_kept.specs.Hands.{NamesRise}
use Rattle.wf_kept.proofs.HandLemmas.{contains_at, lists_kept, names_inserted, names_still_rise, still_contains}
use Rattle.wf_kept.proofs.hands.HandBook.reserve.Goals as goal

pub invariant_of-self-in-Err : goal.invariant_of-self-in-Err
invariant_of-self-in-Err c =
    let gap = rw c.deref.ensures.value at c.in-Err.ensures.gap in
    rw (c.in_ok-insert-in-Err.ensures.items, c.in_ok-row-in-Err.ensures)
    (subst NamesRise (sym (names_inserted c.args.name.now _ c.in-Err.gap)) (names_still_rise c.args.name.now _ c.in-Err.gap c.self.invariant gap))

pub returns-in-Ok-clause-room : goal.returns-in-Ok-clause-room
returns-in-Ok-clause-room c = rw (← c.self.view_is) (contains_at c.args.name.now _ _ (rw c.deref.ensures.value at c.in-Ok.ensures.found))

pub returns-in_ok-insert-in-Err-clause-lists : goal.returns-in_ok-insert-in-Err-clause-lists
returns-in_ok-insert-in-Err-clause-lists c =
    rw (c.in_ok-insert-in-Err.ensures.items, c.in_ok-row-in-Err.ensures, ← c.self.view_is) (lists_kept c.args.name.now _ c.in-Err.gap)

pub returns-in_ok-insert-in-Err-clause-kept : goal.returns-in_ok-insert-in-Err-clause-kept
returns-in_ok-insert-in-Err-clause-kept c =
    rw (c.in_ok-insert-in-Err.ensures.items, c.in_ok-row-in-Err.ensures, names_inserted, ← c.self.view_is) (λ other there. still_contains c.args.name.now other _ c.in-Err.gap there)
