use Rattle.std.proofs.Common.{subst}
use Rattle.wf_lock.specs.Rule.{HasTurn}
use Rattle.wf_lock.proofs.table.TicketTable.wait.Goals as goal

pub returns-then-look-ticket-clause-turn : goal.returns-then-look-ticket-clause-turn
returns-then-look-ticket-clause-turn g c = subst (λ m. HasTurn g.T.Stands.base g.T.Stands.stands g.T.Stands.marked c.args.ticket m c.look.new.seat.me) c.loop.invariant.1 (c.look.ensures.turn c.if-look-ticket.true)
