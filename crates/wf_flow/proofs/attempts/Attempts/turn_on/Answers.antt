use Rattle.std.proofs.Common.{arith}
use Rattle.wf_flow.specs.Changes.{turned}
use Rattle.wf_flow.proofs.SpotLemmas.{spot_written}
use Rattle.wf_flow.proofs.attempts.Attempts.turn_on.Goals as goal

pub returns-then-place-len-clause-items : goal.returns-then-place-len-clause-items
returns-then-place-len-clause-items c =
    rw (← c.self.view_is)
    (spot_written c.args.place (turned c.args.moment c.args.output c.args.turn) c.self.inside.items.items c.index_mut.result.now c.turn_on.new.self (omega arith) c.index_mut.ensures.value c.turn_on.ensures)
