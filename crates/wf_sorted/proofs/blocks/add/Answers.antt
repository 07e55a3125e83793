use Rattle.std.proofs.Common.{◌∙◌, ◌<◌, length, sym, ap, subst, arith, rules}
use Rattle.wf_sorted.specs.Blocks.{entries_of}
use Rattle.wf_sorted.specs.Order.{Rising, put}
use Rattle.wf_sorted.proofs.OrderLemmas.{rising_put}
use Rattle.wf_sorted.proofs.AppendLemmas.{length_put}
use Rattle.wf_sorted.proofs.BlockLemmas.{put_at, some_set}
use Rattle.wf_sorted.proofs.blocks.add.Goals as goal

pub returns-else-is_full-clause-entries : goal.returns-else-is_full-clause-entries
returns-else-is_full-clause-entries c =
    let within : c.place_for-place.result < length c.args.blocks.now.items = search rules in
    let place = rw c.deref.ensures.value at c.place_for-place.ensures.place in
    put_at c.args.entry c.index_mut.result.now c.add.new.self c.args.blocks.now.items c.place_for-place.result within place
    (c.add.ensures ∙ ap (put c.args.entry) c.index_mut.ensures.value)

pub returns-else-is_full-clause-blocks : goal.returns-else-is_full-clause-blocks
returns-else-is_full-clause-blocks c =
    record {
      rising = subst Rising (sym (returns-else-is_full-clause-entries c)) (rising_put c.args.entry (entries_of c.args.blocks.now.items) c.requires.blocks.rising);
      some =
          some_set c.add.new.self c.args.blocks.now.items c.place_for-place.result
          (omega (arith, ap length c.add.ensures, length_put c.args.entry c.index_mut.result.now)) c.requires.blocks.some;
    }
