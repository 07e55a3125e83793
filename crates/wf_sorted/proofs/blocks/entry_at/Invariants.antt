use Rattle.std.proofs.Common.{◌≡◌, slice_get, drop}
use Rattle.wf_sorted.specs.Blocks.{entries_of}
use Rattle.wf_sorted.proofs.blocks.entry_at.Given as goal

-- the entry stands as far into the blocks that are left
abbrev pub invariant-loop-block : goal.invariant-loop-block
invariant-loop-block l = slice_get (entries_of (drop l.block-index l.blocks)) l.left ≡ slice_get (entries_of l.blocks) l.fn.place
