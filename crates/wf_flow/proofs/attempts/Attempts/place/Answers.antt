use Rattle.std.proofs.Common.{rules}
use Rattle.std.proofs.lemmas.List.Sorted.{answers_always}
use Rattle.wf_flow.proofs.PlaceLemmas.{searched}
use Rattle.wf_flow.proofs.attempts.Attempts.place.Goals as goal

-- the closure gives an attempt's number, and the slice is the attempts
pub returns : goal.returns
returns c =
    let facts = c.binary_search_by_key.ensures in
    let by_number = facts.position (λ attempt. attempt.number.0) (answers_always _ _ _ (λ f a r g called. search rules)) in
    rw (c.ok.ensures.value, ← c.self.view_is, ← c.deref.ensures.value)
    (searched _ (rw (← c.self.view_is, ← c.deref.ensures.value) at c.requires) c.args.task _ facts.bound by_number)
