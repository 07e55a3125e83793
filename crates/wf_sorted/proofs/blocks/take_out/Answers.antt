use Rattle.std.proofs.Common.{◌≡◌, ◌∙◌, ◌<◌, length, slice_set, false, length-set, sym, ap, subst, arith, rules}
use Rattle.wf_sorted.specs.Blocks.{NoneEmpty, entries_of}
use Rattle.wf_sorted.specs.Order.{Rising, holds, without}
use Rattle.wf_sorted.proofs.OrderLemmas.{rising_without, without_missing}
use Rattle.wf_sorted.proofs.BlockLemmas.{IsFoundAt, is_found_at, held_at, missing_at, taken_at, entries_left, some_left}
use Rattle.wf_sorted.proofs.blocks.take_out.Goals as goal

missing : (c : goal.Then-place-len) → holds c.args.entry (entries_of c.args.blocks.now.items) ≡ false
missing c =
    let place = rw c.deref.ensures.value at (is_found_at c.args.entry c.deref.result.now c.place_in-place.result c.place_in-place.ensures.parted) in
    missing_at c.args.entry c.args.blocks.now.items c.place_in-place.result (omega (arith, c.if-place-len.true, c.len.ensures, c.deref.ensures.len, ap length c.deref.ensures.value)) place

pub returns-then-place-len-clause-there : goal.returns-then-place-len-clause-there
returns-then-place-len-clause-there c = sym (missing c)

pub returns-then-place-len-clause-entries : goal.returns-then-place-len-clause-entries
returns-then-place-len-clause-entries c = sym (without_missing c.args.entry (entries_of c.args.blocks.now.items) (missing c))

within : (c : goal.After-give_back_empty) → c.place_in-place.result < length c.args.blocks.now.items
within c = search rules

place : (c : goal.After-give_back_empty) → IsFoundAt c.args.entry c.args.blocks.now.items c.place_in-place.result
place c = rw c.deref.ensures.value at (is_found_at c.args.entry c.deref.result.now c.place_in-place.result c.place_in-place.ensures.parted)

pub returns-clause-there : goal.returns-clause-there
returns-clause-there c =
    c.take_out-there.ensures.there
    ∙ ap (holds c.args.entry) c.index_mut.ensures.value
    ∙ sym (held_at c.args.entry c.index_mut.result.now c.args.blocks.now.items c.place_in-place.result c.requires.rising (within c) (place c))

pub returns-clause-entries : goal.returns-clause-entries
returns-clause-entries c =
    ap entries_of c.give_back_empty.ensures.blocks
    ∙ entries_left (slice_set c.args.blocks.now.items c.place_in-place.result c.take_out-there.new.self) c.place_in-place.result
    (omega (arith, within c, length-set c.args.blocks.now.items c.place_in-place.result c.take_out-there.new.self))
    ∙ taken_at c.args.entry c.index_mut.result.now c.take_out-there.new.self c.args.blocks.now.items c.place_in-place.result c.requires.rising (within c) (place c)
    (c.take_out-there.ensures.entries ∙ ap (without c.args.entry) c.index_mut.ensures.value)

pub returns-clause-blocks : goal.returns-clause-blocks
returns-clause-blocks c =
    record {
      rising = subst Rising (sym (returns-clause-entries c)) (rising_without c.args.entry (entries_of c.args.blocks.now.items) c.requires.rising);
      some =
          subst NoneEmpty (sym c.give_back_empty.ensures.blocks)
          (some_left c.take_out-there.new.self c.args.blocks.now.items c.place_in-place.result (within c) c.requires.some);
    }
