use Rattle.std.proofs.Common.{rules}
use Rattle.wf_lock.proofs.RuleLemmas.{sees_stored}
use Rattle.wf_lock.proofs.table.TicketTable.durable.Goals as goal

pub load-requires : goal.load-requires
load-requires g c = (search rules, search rules, sees_stored _ _ _ _ _ _ _)
