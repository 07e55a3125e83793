use Rattle.std.proofs.Common.{rules}
use Rattle.wf_lock.proofs.RuleLemmas.{joins}
use Rattle.wf_lock.proofs.table.TicketTable.take_in.Goals as goal

pub join_seat-requires : goal.join_seat-requires
join_seat-requires g c = (search rules, search rules, search rules, search rules, joins _ _ _ _ _ _ _ _ c.requires.free.1.1 c.requires.free.0.2 c.requires.free.1.2)
