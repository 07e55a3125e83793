use Rattle.std.proofs.Common.{rules}
use Rattle.std.proofs.lemmas.List.Sorted.{answers_always}
use Rattle.wf_kept.specs.declared.kept.KeptFlow.{KeptFlow}
use Rattle.wf_kept.specs.Flows.{all_kept, flow_number, kept}
use Rattle.wf_kept.proofs.SearchLemmas.{Searched, rises_made, searched, searched_made}
use Rattle.wf_kept.proofs.flows.place_of.Goals as goal

-- the closure gives a flow's number
told : (c : goal.After-ok) → Searched flow_number c.args.number.0 (all_kept c.args.flows.now) c.ok.result
told c =
    let facts = c.binary_search_by_key.ensures in
    let by_number = facts.position (λ k. flow_number (kept k)) (answers_always _ _ _ (λ f a r g called. search rules)) in
    let rising = rises_made kept flow_number _ _ c.args.flows.now c.requires.1 in
    searched_made kept flow_number _ _ _ (rw c.ok.ensures.value (searched (λ (k : KeptFlow). flow_number (kept k)) _ _ rising c.args.number.0 _ facts.bound by_number))

pub returns-clause-none : goal.returns-clause-none
returns-clause-none c = (told c).none

pub returns-clause-some : goal.returns-clause-some
returns-clause-some c = (told c).some
