use Rattle.std.proofs.Common.{◌≡◌, length, rules}
use Rattle.wf_queue.proofs.PlaceLemmas.{within, first_added, waiting_added, room_added}
use Rattle.wf_queue.proofs.queues.push_new.Goals as goal

pub returns-clause-place : goal.returns-clause-place
returns-clause-place c =
    let at : c.len-place.result ≡ length c.args.queues.now.items = search rules in
    let first = first_added c.args.name.now _ c.args.queues.now.items c.requires c.in_ok-copy.ensures in
    rw (c.in_ok-push.ensures.items, at) (within c.args.name.now _ (length c.args.queues.now.items) first, first)

pub returns-clause-waiting : goal.returns-clause-waiting
returns-clause-waiting c = λ other. rw c.in_ok-push.ensures.items (waiting_added other _ c.args.queues.now.items c.new.ensures)

pub returns-clause-room : goal.returns-clause-room
returns-clause-room c = λ other. rw c.in_ok-push.ensures.items (room_added other _ c.args.queues.now.items)
