use Rattle.std.proofs.Common.{rules, map}
use Rattle.std.proofs.lemmas.Fn.{always_returns_same}
use Rattle.std.specs.Cmp.Lexicographic.{slice_cmp}
use Rattle.std.specs.Ordering.{nat_cmp}
use Rattle.wf_kept.specs.Hands.{row_name}
use Rattle.wf_kept.proofs.HandLemmas.{SearchedName, searched_name}
use Rattle.wf_kept.proofs.hands.place_of.Goals as goal

-- the closure compares a row's name with the name
told : (c : goal.After-binary_search_by) → SearchedName c.args.name.now (map row_name c.args.rows.now) c.binary_search_by.result
told c =
    let facts = c.binary_search_by.ensures in
    let by_name = facts.position (λ row. slice_cmp nat_cmp (row_name row) c.args.name.now) (always_returns_same _ _ _ (λ a r f' called. (search rules, search rules))) in
    searched_name _ c.requires c.args.name.now _ facts.bound by_name

pub returns-clause-found : goal.returns-clause-found
returns-clause-found c = (told c).found

pub returns-clause-gap : goal.returns-clause-gap
returns-clause-gap c = (told c).gap
