use Rattle.std.proofs.Common.{◌∙◌, sym, subst, rules}
use Rattle.wf_sorted.specs.Order.{Rising}
use Rattle.wf_sorted.proofs.OrderLemmas.{rising_without}
use Rattle.wf_sorted.proofs.block.Block.take_out.Goals as goal

pub invariant_of-self : goal.invariant_of-self
invariant_of-self c =
    let left = rw c.deref.ensures.value at c.in-Some.ensures.some.1 in
    (search rules, search rules, subst Rising (left ∙ sym c.remove.ensures.items) (rising_without c.args.entry c.self.inside.items.items c.self.invariant.2))
