use Rattle.std.proofs.Common.{rules}
use Rattle.wf_lock.proofs.RuleLemmas.{raises}
use Rattle.wf_lock.proofs.table.TicketTable.raise.Goals as goal

pub fetch_max-requires : goal.fetch_max-requires
fetch_max-requires g c = (search rules, search rules, raises _ _ _ _ _ _ _ _ c.requires.right (search rules))
