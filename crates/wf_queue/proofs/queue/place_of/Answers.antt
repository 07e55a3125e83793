use Rattle.wf_queue.proofs.PlaceLemmas.{placed}
use Rattle.wf_queue.proofs.queue.place_of.Goals as goal

pub returns-clause-none : goal.returns-clause-none
returns-clause-none c = (placed c.args.name.now c.args.queues.now _ c.position_of.ensures).none

pub returns-clause-some : goal.returns-clause-some
returns-clause-some c = (placed c.args.name.now c.args.queues.now _ c.position_of.ensures).some
