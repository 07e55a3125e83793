use Rattle.std.proofs.Common.{◌∙◌, ◌+◌, ◌-◌, sym, ap, arith, slice_get, drop}
use Rattle.wf_sorted.specs.Blocks.{entries_of}
use Rattle.wf_sorted.proofs.AppendLemmas.{get_front, get_back}
use Rattle.wf_sorted.proofs.BlockLemmas.{next_entries}
use Rattle.wf_sorted.proofs.blocks.entry_at.Goals as goal

pub returns-then-left-len : goal.returns-then-left-len
returns-then-left-len c =
    c.get.ensures
    ∙ sym (get_front c.block-item.result (entries_of (drop (c.loop-block.block-index + 1) c.args.blocks.now)) c.loop-block.left (omega (arith, c.if-left-len.true, c.len.ensures)))
    ∙ sym (next_entries c.args.blocks.now c.loop-block.block-index c.loop-block.left c.block-item.result c.loop-block-test.true c.block-item.is)
    ∙ c.loop-block.invariant

pub loop-block-preserved : goal.loop-block-preserved
loop-block-preserved c =
    ap (λ n. slice_get (entries_of (drop (c.loop-block.block-index + 1) c.args.blocks.now)) (c.loop-block.left - n)) c.len-left.ensures
    ∙ sym (get_back c.block-item.result (entries_of (drop (c.loop-block.block-index + 1) c.args.blocks.now)) c.loop-block.left (omega (arith, c.if-left-len.false, c.len.ensures)))
    ∙ sym (next_entries c.args.blocks.now c.loop-block.block-index c.loop-block.left c.block-item.result c.loop-block-test.true c.block-item.is)
    ∙ c.loop-block.invariant
