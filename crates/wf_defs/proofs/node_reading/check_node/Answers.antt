use Rattle.std.proofs.Common.{◌∙◌, ap, sym}
use Rattle.wf_defs.specs.Faults.{fault_at}
use Rattle.wf_defs.proofs.RoomLemmas.{room_left}
use Rattle.wf_defs.proofs.node_reading.check_node.Goals as goal

pub returns-clause-room : goal.returns-clause-room
returns-clause-room c =
    room_left c.args.most c.args.seen.now c.args.node.now _ _ c.args.list.now.looped _ (ap (fault_at _) (sym c.broken_node_rule-broken.ensures) ∙ c.in_ok-tell.ensures.ok)
