use Rattle.std.proofs.Common.{◌∙◌, arith}
use Rattle.wf_queue.proofs.PlaceLemmas.{room_changed, waiting_kept, room_kept}
use Rattle.wf_queue.proofs.queues.Queues.reserve.Goals as goal

pub returns-in_err-reserve-clause-waiting : goal.returns-in_err-reserve-clause-waiting
returns-in_err-reserve-clause-waiting c =
    rw (← c.self.view_is)
    (λ name. waiting_kept c.args.queue.now _ c.index_mut-named.result.now c.reserve.new.self c.place_or_new.new.queues.items c.in_ok-place.place c.index_mut-named.ensures.value c.in_ok-place.ensures.place.1 c.in_err-reserve.ensures.entries name
    ∙ c.in_ok-place.ensures.waiting name)

pub returns-in_err-reserve-clause-kept : goal.returns-in_err-reserve-clause-kept
returns-in_err-reserve-clause-kept c =
    rw (← c.self.view_is)
    (λ name. omega (
      arith,
      c.in_ok-place.ensures.room name,
      room_kept c.args.queue.now _ c.index_mut-named.result.now c.reserve.new.self c.place_or_new.new.queues.items c.in_ok-place.place c.index_mut-named.ensures.value c.in_ok-place.ensures.place.1 c.in_err-reserve.ensures.kept name,
    ))

pub returns-clause-waiting : goal.returns-clause-waiting
returns-clause-waiting c =
    rw (← c.self.view_is)
    (λ name. waiting_kept c.args.queue.now _ c.index_mut-named.result.now c.reserve.new.self c.place_or_new.new.queues.items c.in_ok-place.place c.index_mut-named.ensures.value c.in_ok-place.ensures.place.1 c.in_ok-reserve.ensures.entries name
    ∙ c.in_ok-place.ensures.waiting name)

pub returns-clause-room : goal.returns-clause-room
returns-clause-room c =
    let now = room_changed c.args.queue.now _ c.index_mut-named.result.now c.reserve.new.self c.place_or_new.new.queues.items c.in_ok-place.place c.index_mut-named.ensures.value c.in_ok-place.ensures.place.1 in
    rw now c.in_ok-reserve.ensures.room

pub returns-clause-kept : goal.returns-clause-kept
returns-clause-kept c =
    rw (← c.self.view_is)
    (λ name. omega (
      arith,
      c.in_ok-place.ensures.room name,
      room_kept c.args.queue.now _ c.index_mut-named.result.now c.reserve.new.self c.place_or_new.new.queues.items c.in_ok-place.place c.index_mut-named.ensures.value c.in_ok-place.ensures.place.1 c.in_ok-reserve.ensures.kept name,
    ))
