use Rattle.std.proofs.Common.{◌∷◌, sym, ap, ◌∙◌}
use Rattle.std.specs.Prelude.{Some}
use Rattle.atomic_table.specs.Table.{rest}
use Rattle.wf_lock.proofs.table.TicketTable.take_value.Goals as goal

pub exchange-requires : goal.exchange-requires
exchange-requires g c = let t = c.requires.turn in (c.requires.own, (Some t.2.0, t.2.1 ∙ ap (λ z. (0, Some t.2.0) ∷ rest z) (sym t.2.1)))
