use Rattle.std.proofs.Common.{rules, refl}
use Rattle.wf_lock.proofs.RuleLemmas.{draws}
use Rattle.wf_lock.proofs.table.TicketTable.draw.Goals as goal

pub compare_exchange-requires : goal.compare_exchange-requires
compare_exchange-requires g c = (search rules, search rules, draws _ _ _ _ _ _ _ _ _ (search rules) refl (search rules))
