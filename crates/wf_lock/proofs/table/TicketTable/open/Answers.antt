use Rattle.std.proofs.Common.{rules, ◌≡◌, [], ◌∷◌, sym, ap, subst}
use Rattle.std.specs.Prelude.{Some, None}
use Rattle.atomic_table.specs.Table.{opening}
use Rattle.wf_lock.specs.Rule.{IsOneHistory, first_view}
use Rattle.wf_lock.proofs.RuleLemmas.{opens}
use Rattle.wf_lock.proofs.table.TicketTable.open.Goals as goal

pub new-requires : goal.new-requires
new-requires g c =
    let first : c.of-first.result.value ≡ c.args.value = search rules in
    let items : c.push.new.self.items ≡ Some (record { value = c.args.value; last = None }) ∷ [] = search rules in
    subst (λ z. IsOneHistory g.T.Stands.base g.T.Stands.stands g.T.Stands.marked (g.T.Stands.base c.of-first.result.value) (opening (c.args.ticket ∷ 0 ∷ 0 ∷ []) z (first_view (g.T.Stands.base c.of-first.result.value)))) (sym items)
    (opens g.T.Stands.base g.T.Stands.stands g.T.Stands.marked (g.T.Stands.base c.of-first.result.value) _ c.args.ticket c.requires.ticket (ap g.T.Stands.base (sym first)) c.requires.stands)
