use Rattle.std.proofs.Common.{rules}
use Rattle.wf_lock.proofs.RuleLemmas.{sees}
use Rattle.wf_lock.proofs.table.TicketTable.see_ticket.Goals as goal

pub load-requires : goal.load-requires
load-requires g c = (search rules, search rules, sees _ _ _ _ _ _ _)
