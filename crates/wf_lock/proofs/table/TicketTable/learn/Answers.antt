use Rattle.std.proofs.Common.{rules}
use Rattle.wf_lock.proofs.RuleLemmas.{learns}
use Rattle.wf_lock.proofs.table.TicketTable.learn.Goals as goal

pub load-requires : goal.load-requires
load-requires g c = (search rules, search rules, learns _ _ _ _ _ _ _ (search rules))
