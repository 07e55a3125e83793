use Rattle.std.proofs.Common.{◌∙◌, length, sym, ap, arith}
use Rattle.wf_sorted.specs.Blocks.{entries_of}
use Rattle.wf_sorted.proofs.OrderLemmas.{without_missing}
use Rattle.wf_sorted.proofs.AppendLemmas.{length_without}
use Rattle.wf_sorted.proofs.sorted.Sorted.take_out.Goals as goal

pub invariant_of-self : goal.invariant_of-self
invariant_of-self c = (
  c.take_out-there.ensures.blocks,
  omega (
    arith,
    c.self.invariant.1,
    ap length c.take_out-there.ensures.entries,
    length_without c.args.entry (entries_of c.self.inside.blocks.items) (sym c.take_out-there.ensures.there ∙ c.if-there.true),
  ),
)

pub invariant_of-self-else-there : goal.invariant_of-self-else-there
invariant_of-self-else-there c = (
  c.take_out-there.ensures.blocks,
  c.self.invariant.1
      ∙ ap length
      (sym (c.take_out-there.ensures.entries ∙ without_missing c.args.entry (entries_of c.self.inside.blocks.items) (sym c.take_out-there.ensures.there ∙ c.if-there.false))),
)
