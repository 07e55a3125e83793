use Rattle.std.proofs.Common.{arith}
use Rattle.wf_machine.specs.Operators.{superseded}
use Rattle.wf_flow.proofs.SpotLemmas.{spot_written}
use Rattle.wf_flow.proofs.attempts.Attempts.supersede.Goals as goal

pub returns-then-place-len-clause-items : goal.returns-then-place-len-clause-items
returns-then-place-len-clause-items c =
    rw (← c.self.view_is)
    (spot_written c.args.place superseded c.self.inside.items.items c.index_mut.result.now c.set_superseded.new.self (omega arith) c.index_mut.ensures.value c.set_superseded.ensures)
