use Rattle.std.proofs.Common.{length, ap, arith}
use Rattle.wf_sorted.specs.Blocks.{entries_of}
use Rattle.wf_sorted.proofs.AppendLemmas.{length_put}
use Rattle.wf_sorted.proofs.sorted.Sorted.add.Goals as goal

pub invariant_of-self : goal.invariant_of-self
invariant_of-self c =
    (c.add.ensures.blocks, omega (arith, c.self.invariant.1, ap length c.add.ensures.entries, length_put c.args.entry (entries_of c.self.inside.blocks.items)))
