use Rattle.std.proofs.Common.{◌≡◌, ◌∙◌, ◌-◌, ◌++◌, [], length, take, drop, vec_len, ap, length-drop, arith, rules}
use Rattle.std.proofs.lemmas.List.{take_rest}
use Rattle.wf_sorted.proofs.AppendLemmas.{rising_take, rising_drop}
use Rattle.wf_sorted.proofs.block.Block.split.Goals as goal

moved : (c : goal.After-truncate) → c.extend_from_slice.new.self.items ≡ drop 64 c.self.inside.items.items
moved c =
    let none : c.upper.inside.items.items ≡ [] = c.upper.view_is ∙ c.requires.empty in
    let few : vec_len c.upper.inside.items ≡ 0 = search rules in
    let full = rw (← c.self.view_is) at c.requires.full in
    let half : take (length c.deref.result.now - 64) (drop 64 c.deref.result.now) ≡ drop 64 c.self.inside.items.items =
    take_rest c.deref.result.now 64 ∙ ap (drop 64) c.deref.ensures.value in
    let ok = c.extend_from_slice.ensures.succeeds (omega (arith, few, full, ap length half, length-drop 64 c.self.inside.items.items, c.upper.invariant.0)) in
    let grown = rw ok at c.extend_from_slice.ensures.items in
    grown ∙ ap (λ es. es ++ take (length c.deref.result.now - 64) (drop 64 c.deref.result.now)) none ∙ half

pub invariant_of-self : goal.invariant_of-self
invariant_of-self c = (search rules, search rules, rw c.truncate.ensures.items (rising_take 64 c.self.inside.items.items c.self.invariant.2))

pub invariant_of-upper : goal.invariant_of-upper
invariant_of-upper c = (search rules, search rules, rw (moved c) (rising_drop 64 c.self.inside.items.items c.self.invariant.2))

pub returns-clause-upper : goal.returns-clause-upper
returns-clause-upper c = rw (← c.self.view_is) (moved c)
