use Rattle.std.proofs.Common.{◌≡◌, ◌∙◌, ◌++◌, ◌+◌, ◌<◌, suc, length, slice_set, sym, ap, subst, arith, rules}
use Rattle.std.specs.List.{insert}
use Rattle.wf_sorted.specs.Blocks.{NoneEmpty, entries_of}
use Rattle.wf_sorted.specs.Order.{Rising, put}
use Rattle.wf_sorted.proofs.OrderLemmas.{rising_put}
use Rattle.wf_sorted.proofs.BlockLemmas.{put_at, two_parts, some_set, some_insert}
use Rattle.wf_sorted.proofs.blocks.add_to_full.Goals as goal

pub returns-clause-entries : goal.returns-clause-entries
returns-clause-entries c =
    let within : c.args.place < length c.args.blocks.now.items = search rules in
    let next : c.args.place + 1 ≡ suc c.args.place = omega arith in
    let lower = c.add_and_split.new.self in
    let upper = c.add_and_split.new.upper in
    ap entries_of (c.insert_at.ensures.items ∙ ap (λ i. insert (slice_set c.args.blocks.now.items c.args.place lower) i upper) next)
    ∙ two_parts lower upper c.args.blocks.now.items c.args.place within
    ∙ put_at c.args.entry c.index_mut.result.now (lower ++ upper) c.args.blocks.now.items c.args.place within c.requires.here
    (c.add_and_split.ensures.entries ∙ ap (put c.args.entry) c.index_mut.ensures.value)

pub returns-clause-blocks : goal.returns-clause-blocks
returns-clause-blocks c =
    record {
      rising = subst Rising (sym (returns-clause-entries c)) (rising_put c.args.entry (entries_of c.args.blocks.now.items) c.requires.blocks.rising);
      some =
          subst NoneEmpty (sym c.insert_at.ensures.items)
          (some_insert c.add_and_split.new.upper (slice_set c.args.blocks.now.items c.args.place c.add_and_split.new.self) (c.args.place + 1) c.add_and_split.ensures.upper
          (some_set c.add_and_split.new.self c.args.blocks.now.items c.args.place c.add_and_split.ensures.lower c.requires.blocks.some));
    }
