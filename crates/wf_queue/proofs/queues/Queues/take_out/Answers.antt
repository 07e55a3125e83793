use Rattle.std.proofs.Common.{◌∙◌, sym, ap}
use Rattle.wf_sorted.specs.Order.{holds, without}
use Rattle.wf_queue.proofs.PlaceLemmas.{waiting_old, waiting_changed, waiting_other, room_kept}
use Rattle.wf_queue.proofs.queues.Queues.take_out.Goals as goal

pub returns-clause-there : goal.returns-clause-there
returns-clause-there c =
    let first = rw c.deref.ensures.value at c.in-Some.ensures.some.1 in
    rw (← c.self.view_is)
    (c.take_out.ensures.there
    ∙ ap (holds (record { moment = c.args.ready; number = c.args.number })) (sym (waiting_old c.args.queue.now _ c.index_mut-named.result.now c.take_out.new.self c.self.inside.queues.items c.in-Some.place c.index_mut-named.ensures.value first)))

pub returns-clause-waiting : goal.returns-clause-waiting
returns-clause-waiting c =
    let first = rw c.deref.ensures.value at c.in-Some.ensures.some.1 in
    rw (← c.self.view_is)
    (waiting_changed c.args.queue.now _ c.index_mut-named.result.now c.take_out.new.self c.self.inside.queues.items c.in-Some.place c.index_mut-named.ensures.value first
    ∙ c.take_out.ensures.entries
    ∙ ap (without (record { moment = c.args.ready; number = c.args.number })) (sym (waiting_old c.args.queue.now _ c.index_mut-named.result.now c.take_out.new.self c.self.inside.queues.items c.in-Some.place c.index_mut-named.ensures.value first)))

pub returns-clause-others : goal.returns-clause-others
returns-clause-others c =
    let first = rw c.deref.ensures.value at c.in-Some.ensures.some.1 in
    rw (← c.self.view_is)
    (waiting_other c.args.queue.now _ c.index_mut-named.result.now c.take_out.new.self c.self.inside.queues.items c.in-Some.place c.index_mut-named.ensures.value first)

pub returns-clause-room : goal.returns-clause-room
returns-clause-room c =
    let first = rw c.deref.ensures.value at c.in-Some.ensures.some.1 in
    rw (← c.self.view_is)
    (room_kept c.args.queue.now _ c.index_mut-named.result.now c.take_out.new.self c.self.inside.queues.items c.in-Some.place c.index_mut-named.ensures.value first c.take_out.ensures.room)
