use Rattle.std.proofs.Common.{arith}
use Rattle.wf_flow.specs.Changes.{forgiven}
use Rattle.wf_flow.proofs.SpotLemmas.{spot_written}
use Rattle.wf_flow.proofs.attempts.Attempts.forgive.Goals as goal

pub returns-then-place-len-clause-items : goal.returns-then-place-len-clause-items
returns-then-place-len-clause-items c =
    rw (← c.self.view_is)
    (spot_written c.args.place (forgiven c.args.moment) c.self.inside.items.items c.index_mut.result.now c.forgive.new.self (omega arith) c.index_mut.ensures.value c.forgive.ensures)
