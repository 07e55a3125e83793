use Rattle.std.proofs.Common.{◌∙◌, ◌∷◌, [], ◌++◌, sym, ap}
use Rattle.wf_sorted.specs.Order.{put}
use Rattle.wf_queue.specs.Plain.{Waiter, waiting_of}
use Rattle.wf_queue.proofs.PlainLemmas.{itself_named, other_name, pushed_other, pushed_same, waits}
use Rattle.wf_queue.proofs.plain.PlainQueues.add.Goals as goal

pub returns-clause-waiting : goal.returns-clause-waiting
returns-clause-waiting c =
    let w : Waiter = record { name = c.args.queue.now; entry = record { moment = c.args.ready; number = c.args.number } } in
    rw (← c.self.view_is)
    (waits c.args.queue.now c.push.new.self.items
    ∙ ap (waiting_of c.args.queue.now) (c.in_ok-push.ensures.items ∙ ap (λ (i : Waiter). c.self.inside.items.items ++ i ∷ []) c.in_ok-item.ensures)
    ∙ pushed_same c.args.queue.now w c.self.inside.items.items (itself_named c.args.queue.now)
    ∙ ap (put w.entry) (sym (waits c.args.queue.now c.self.inside.items.items)))

pub returns-clause-others : goal.returns-clause-others
returns-clause-others c =
    let w : Waiter = record { name = c.args.queue.now; entry = record { moment = c.args.ready; number = c.args.number } } in
    rw (← c.self.view_is)
    (λ name differs.
    waits name c.push.new.self.items
    ∙ ap (waiting_of name) (c.in_ok-push.ensures.items ∙ ap (λ (i : Waiter). c.self.inside.items.items ++ i ∷ []) c.in_ok-item.ensures)
    ∙ pushed_other name w c.self.inside.items.items (other_name c.args.queue.now name differs)
    ∙ sym (waits name c.self.inside.items.items))
