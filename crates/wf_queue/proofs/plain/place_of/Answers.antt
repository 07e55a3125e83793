use Rattle.std.proofs.Common.{◌∙◌, ◌+◌, List, drop, sym, ap, false}
use Rattle.std.proofs.lemmas.List.{at_drop_more}
use Rattle.wf_sorted.specs.Order.{holds}
use Rattle.wf_queue.specs.Plain.{Waiter, is_waiter, waiting_of}
use Rattle.wf_queue.proofs.PlainLemmas.{not_here}
use Rattle.wf_queue.proofs.plain.place_of.Goals as goal

pub loop-place-preserved : goal.loop-place-preserved
loop-place-preserved c =
    let left : List Waiter = drop (c.loop-place.place + 1) c.args.items.now in
    let other = ap (λ w. is_waiter c.args.queue.now c.args.entry w) (sym c.index-items-place.is) ∙ sym c.is.ensures ∙ c.if-is.false in
    sym (at_drop_more (λ ws. holds c.args.entry (waiting_of c.args.queue.now ws)) c.args.items.now c.loop-place.place c.index-items-place.result c.loop-place-test.true
    ∙ not_here c.args.queue.now c.args.entry _ left other)
    ∙ c.loop-place.invariant
