use Rattle.std.proofs.Common.{rules, of_calls, ◌≡◌}
use Rattle.std.proofs.lemmas.Fn.{always_returns_same}
use Rattle.wf_keeper.specs.Keys.{key_cmp}
use Rattle.wf_keeper.proofs.RowLemmas.{searched}
use Rattle.wf_keeper.proofs.row.place_of.Goals as goal

-- the closure compares a row's key with the one that is sought
pub returns : goal.returns
returns c =
    let facts = c.binary_search_by.ensures in
    searched c.args.key.now c.args.rows.now c.binary_search_by.result c.requires facts.bound
    (facts.position (λ r. key_cmp r.key c.args.key.now)
    (always_returns_same _ (λ a r. r ≡ key_cmp a.0.now.key c.args.key.now) _ (λ a r q k. search (rules, of_calls))))
