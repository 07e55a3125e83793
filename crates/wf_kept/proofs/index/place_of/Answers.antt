use Rattle.std.proofs.Common.{rules}
use Rattle.std.proofs.lemmas.List.Sorted.{answers_always}
use Rattle.wf_kept.specs.Index.{placed_task}
use Rattle.wf_kept.proofs.SearchLemmas.{Searched, searched}
use Rattle.wf_kept.proofs.IndexLemmas.{placed_none}
use Rattle.wf_kept.proofs.index.place_of.Goals as goal

-- the closure gives a row's number
told : (c : goal.After-ok) → Searched placed_task c.args.task.0 c.args.index.now c.ok.result
told c =
    let facts = c.binary_search_by_key.ensures in
    let by_number = facts.position placed_task (answers_always _ _ _ (λ f a r g called. search rules)) in
    rw c.ok.ensures.value (searched placed_task _ _ c.requires.1 c.args.task.0 _ facts.bound by_number)

pub returns-clause-none : goal.returns-clause-none
returns-clause-none c = placed_none _ _ _ (told c)

pub returns-clause-some : goal.returns-clause-some
returns-clause-some c = (told c).some
