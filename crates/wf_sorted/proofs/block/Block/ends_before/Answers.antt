use Rattle.std.proofs.Common.{◌∙◌}
use Rattle.wf_sorted.proofs.AppendLemmas.{by_last}
use Rattle.wf_sorted.proofs.block.Block.ends_before.Goals as goal

pub returns-in-Some : goal.returns-in-Some
returns-in-Some c =
    let last = rw c.deref.ensures.value at c.in-Some.ensures.value in
    c.is_before.ensures ∙ rw (← c.self.view_is) (by_last c.args.entry c.in-Some.last.now c.self.inside.items.items c.self.invariant.2 last)
