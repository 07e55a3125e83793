use Rattle.std.proofs.Common.{◌≡◌}
use Rattle.wf_lock.specs.Seats.{view, IsSame, IsFree}
use Rattle.wf_lock.proofs.table.TicketTable.draw_next.Given as goal

abbrev pub invariant-loop : goal.invariant-loop
invariant-loop g l = IsSame l.initial.seat l.seat × IsFree l.seat × (view l.seat ≡ view l.initial.seat)
