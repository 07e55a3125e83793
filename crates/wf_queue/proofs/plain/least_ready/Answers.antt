use Rattle.std.proofs.Common.{◌∙◌, ◌+◌, ◌∷◌, List, Some, drop, sym, ap}
use Rattle.std.proofs.lemmas.List.{at_drop_more}
use Rattle.wf_sorted.specs.declared.entry.Entry.{Entry}
use Rattle.wf_sorted.specs.Order.{lesser}
use Rattle.wf_queue.specs.Plain.{Waiter}
use Rattle.wf_queue.proofs.PlainLemmas.{best, best_ready, best_unready, join, joined}
use Rattle.wf_queue.proofs.plain.least_ready.Goals as goal
use Rattle.wf_queue.proofs.plain.least_ready.Goals.{then-is_ready, else-is_ready}

pub loop-item-preserved : goal.loop-item-preserved
loop-item-preserved c =
    let left : List Waiter = drop (c.loop-item.item-index + 1) c.args.items.now in
    let next =
    at_drop_more (best c.args.moment c.args.queue.now) c.args.items.now c.loop-item.item-index c.item-item.result c.loop-item-test.true
    ∙ ap (λ (w : Waiter). best c.args.moment c.args.queue.now (w ∷ left)) (sym c.item-item.is) in
    let rest = best c.args.moment c.args.queue.now left in
    elim c.if-is_ready.branch [
      | then-is_ready w ↦
          ap (λ first. join first rest) (w.first-is ∙ ap Some (w.earlier.ensures ∙ ap (λ (e : Entry). lesser e c.loop-item.first) w.entry.ensures))
          ∙ sym (joined c.loop-item.first c.item-item.result.entry rest)
          ∙ ap (join c.loop-item.first) (sym (next ∙ best_ready c.args.moment c.args.queue.now c.item-item.result left (sym c.is_ready.ensures ∙ w.if-is_ready.true)))
          ∙ c.loop-item.invariant
      | else-is_ready w ↦
          ap (λ first. join first rest) w.first-is
          ∙ ap (join c.loop-item.first) (sym (next ∙ best_unready c.args.moment c.args.queue.now c.item-item.result left (sym c.is_ready.ensures ∙ w.if-is_ready.false)))
          ∙ c.loop-item.invariant
    ]
