use Rattle.std.proofs.Common.{rules}
use Rattle.wf_lock.proofs.RuleLemmas.{finishes}
use Rattle.wf_lock.proofs.table.TicketTable.served.Goals as goal

pub fetch_add-requires : goal.fetch_add-requires
fetch_add-requires g c = (search rules, search rules, finishes _ _ _ _ _ _ _ c.args.ticket c.args.held.now.value c.args.entry.now.value c.requires.turn.0 c.requires.own.1 c.requires.turn.1 c.requires.base c.requires.stands c.requires.right)

pub returns-clause-place : goal.returns-clause-place
returns-clause-place g c = (c.fetch_add.ensures.2 c.args.ticket c.args.held.now.value c.args.entry.now.value c.requires.turn.0 c.requires.own.1 c.requires.turn.1).0

pub returns-clause-added : goal.returns-clause-added
returns-clause-added g c = let t = c.fetch_add.ensures.2 c.args.ticket c.args.held.now.value c.args.entry.now.value c.requires.turn.0 c.requires.own.1 c.requires.turn.1 in (t.1, t.2)
