use Rattle.std.proofs.Common.{refl}
use Rattle.wf_queue.proofs.PlaceLemmas.{found}
use Rattle.wf_queue.proofs.queue.waiting_in.Goals as goal

pub returns-clause-some : goal.returns-clause-some
returns-clause-some c =
    rw (found c.args.name.now c.index-queues-place.result c.args.queues.now c.in_ok-place.place c.in_ok-place.ensures.some.1) refl
