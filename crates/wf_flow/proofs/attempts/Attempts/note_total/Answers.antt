use Rattle.std.proofs.Common.{arith}
use Rattle.wf_flow.specs.Changes.{total_noted}
use Rattle.wf_flow.proofs.SpotLemmas.{spot_written}
use Rattle.wf_flow.proofs.attempts.Attempts.note_total.Goals as goal

pub returns-then-place-len-clause-items : goal.returns-then-place-len-clause-items
returns-then-place-len-clause-items c =
    rw (← c.self.view_is)
    (spot_written c.args.place (total_noted c.args.moment c.args.reason) c.self.inside.items.items c.index_mut.result.now c.note_total.new.self (omega arith) c.index_mut.ensures.value c.note_total.ensures)
