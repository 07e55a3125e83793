use Rattle.std.proofs.Common.{◌∙◌, sym}
use Rattle.wf_queue.proofs.ReadyLemmas.{ready_none, ready_first, ready_later}
use Rattle.wf_queue.proofs.queues.Queues.first_ready.Goals as goal

pub returns-in_err-first-clause-value : goal.returns-in_err-first-clause-value
returns-in_err-first-clause-value g c =
    let waits = rw c.deref.ensures.value at c.in_ok-sorted.ensures.some in
    c.from_residual-in_err-first.ensures
    ∙ rw (← c.self.view_is, ← waits) (sym (ready_none c.args.moment c.in_ok-sorted.sorted.now.entries (sym c.in_err-first.ensures.value)))

pub returns-then-first-moment-clause-value : goal.returns-then-first-moment-clause-value
returns-then-first-moment-clause-value g c =
    let waits = rw c.deref.ensures.value at c.in_ok-sorted.ensures.some in
    rw (← c.self.view_is, ← waits)
    (sym (ready_first c.args.moment c.in_ok-first.first c.in_ok-sorted.sorted.now.entries (sym c.in_ok-first.ensures.value) c.in_ok-first.ensures.order c.if-first-moment.true))

pub returns-else-first-moment-clause-value : goal.returns-else-first-moment-clause-value
returns-else-first-moment-clause-value g c =
    let waits = rw c.deref.ensures.value at c.in_ok-sorted.ensures.some in
    rw (← c.self.view_is, ← waits)
    (sym (ready_later c.args.moment c.in_ok-first.first c.in_ok-sorted.sorted.now.entries (sym c.in_ok-first.ensures.value) c.in_ok-first.ensures.order c.if-first-moment.false))
