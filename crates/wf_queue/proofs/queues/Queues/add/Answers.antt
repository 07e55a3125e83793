use Rattle.std.proofs.Common.{◌∙◌, sym, ap, arith}
use Rattle.wf_sorted.specs.Order.{put}
use Rattle.wf_queue.proofs.PlaceLemmas.{waiting_old, room_old, waiting_changed, room_changed, waiting_other, room_other}
use Rattle.wf_queue.proofs.queues.Queues.add.Goals as goal

pub add-requires : goal.add-requires
add-requires c =
    let first = rw c.deref.ensures.value at c.in-Some.ensures.some.1 in
    let some = rw (← c.self.view_is) at c.requires in
    let old = room_old c.args.queue.now _ c.index_mut-named.result.now c.index_mut-named.result.now.waiting c.self.inside.queues.items c.in-Some.place c.index_mut-named.ensures.value first in
    omega (arith, some, old)

pub returns-in-Some-clause-waiting : goal.returns-in-Some-clause-waiting
returns-in-Some-clause-waiting c =
    let first = rw c.deref.ensures.value at c.in-Some.ensures.some.1 in
    rw (← c.self.view_is)
    (waiting_changed c.args.queue.now _ c.index_mut-named.result.now c.add.new.self c.self.inside.queues.items c.in-Some.place c.index_mut-named.ensures.value first
    ∙ c.add.ensures.entries
    ∙ ap (put (record { moment = c.args.ready; number = c.args.number })) (sym (waiting_old c.args.queue.now _ c.index_mut-named.result.now c.add.new.self c.self.inside.queues.items c.in-Some.place c.index_mut-named.ensures.value first)))

pub returns-in-Some-clause-room : goal.returns-in-Some-clause-room
returns-in-Some-clause-room c =
    let first = rw c.deref.ensures.value at c.in-Some.ensures.some.1 in
    let old = room_old c.args.queue.now _ c.index_mut-named.result.now c.add.new.self c.self.inside.queues.items c.in-Some.place c.index_mut-named.ensures.value first in
    let now = room_changed c.args.queue.now _ c.index_mut-named.result.now c.add.new.self c.self.inside.queues.items c.in-Some.place c.index_mut-named.ensures.value first in
    rw (← c.self.view_is, old, now) c.add.ensures.room

pub returns-in-Some-clause-others : goal.returns-in-Some-clause-others
returns-in-Some-clause-others c =
    let first = rw c.deref.ensures.value at c.in-Some.ensures.some.1 in
    rw (← c.self.view_is)
    (waiting_other c.args.queue.now _ c.index_mut-named.result.now c.add.new.self c.self.inside.queues.items c.in-Some.place c.index_mut-named.ensures.value first)

pub returns-in-Some-clause-other_room : goal.returns-in-Some-clause-other_room
returns-in-Some-clause-other_room c =
    let first = rw c.deref.ensures.value at c.in-Some.ensures.some.1 in
    rw (← c.self.view_is)
    (room_other c.args.queue.now _ c.index_mut-named.result.now c.add.new.self c.self.inside.queues.items c.in-Some.place c.index_mut-named.ensures.value first)
