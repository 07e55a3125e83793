use Rattle.std.proofs.Common.{arith}
use Rattle.wf_flow.specs.Changes.{closed}
use Rattle.wf_flow.proofs.SpotLemmas.{spot_written}
use Rattle.wf_flow.proofs.attempts.Attempts.close.Goals as goal

pub returns-then-place-len-clause-items : goal.returns-then-place-len-clause-items
returns-then-place-len-clause-items c =
    rw (← c.self.view_is)
    (spot_written c.args.place (closed c.args.moment c.args.status c.args.reason c.args.output) c.self.inside.items.items c.index_mut.result.now c.close.new.self (omega arith) c.index_mut.ensures.value c.close.ensures)
