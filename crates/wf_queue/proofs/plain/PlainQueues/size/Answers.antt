use Rattle.std.proofs.Common.{◌∙◌, List, length, bytes_eq, sym, ap}
use Rattle.std.specs.Prelude.{filter}
use Rattle.wf_queue.specs.Plain.{Waiter}
use Rattle.wf_queue.proofs.PlainLemmas.{named_count, waits}
use Rattle.wf_queue.proofs.plain.PlainQueues.size.Goals as goal

pub returns : goal.returns
returns c =
    c.count.ensures
    ∙ ap (λ (ws : List Waiter). length (filter (λ w. bytes_eq w.name c.args.queue.now) ws)) c.deref.ensures.value
    ∙ named_count c.args.queue.now c.self.inside.items.items
    ∙ rw (← c.self.view_is) (sym (ap length (waits c.args.queue.now c.self.inside.items.items)))
