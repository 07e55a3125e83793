use Rattle.std.proofs.Common.{rules}
use Rattle.wf_lock.proofs.RuleLemmas.{looks}
use Rattle.wf_lock.proofs.table.TicketTable.look.Goals as goal

pub load-requires : goal.load-requires
load-requires g c = (search rules, search rules, looks _ _ _ _ _ _ _ c.args.ticket (search rules))

pub returns-clause-turn : goal.returns-clause-turn
returns-clause-turn g c = (c.load.ensures.2 c.args.ticket c.requires.waits).0
