use Rattle.std.proofs.Common.{rules}
use Rattle.std.proofs.lemmas.Fn.{always_returns_same}
use Rattle.std.specs.Cmp.Lexicographic.{slice_cmp}
use Rattle.std.specs.Ordering.{nat_cmp}
use Rattle.wf_limits.proofs.Places.{searched}
use Rattle.wf_limits.proofs.hands.Hands.place.Goals as goal

-- the closure compares a hand's name with the name, and the slice is the list
pub returns : goal.returns
returns c =
    let facts = c.binary_search_by.ensures in
    let by_name = facts.position (λ hand. slice_cmp nat_cmp hand.name c.args.name.now) (always_returns_same _ _ _ (λ a r f' called. (search rules, search rules))) in
    rw (← c.self.view_is, ← c.deref.ensures.value) (searched _ (rw c.deref.ensures.value c.self.invariant) c.args.name.now _ facts.bound by_name)
