use Rattle.std.proofs.Common.{◌≡◌}
use Rattle.wf_lock.specs.Seats.{IsSame}
use Rattle.wf_lock.proofs.table.TicketTable.wait.Given as goal

abbrev pub invariant-loop : goal.invariant-loop
invariant-loop g l = IsSame l.initial.seat l.seat × (l.seat.me ≡ l.initial.seat.me)
