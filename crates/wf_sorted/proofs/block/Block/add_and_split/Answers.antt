use Rattle.std.proofs.Common.{◌≡◌, ◌∙◌, ◌++◌, List, length, take, drop, sym, ap, arith, length-drop, length-take-le, take-append-drop}
use Rattle.wf_sorted.specs.declared.entry.Entry.{Entry}
use Rattle.wf_sorted.specs.Order.{put}
use Rattle.wf_sorted.proofs.AppendLemmas.{length_put, put_behind, put_within}
use Rattle.wf_sorted.proofs.block.Block.add_and_split.Goals as goal

-- the parts of a full block
module _ (all lower upper : List Entry) (front : lower ≡ take 64 all) (back : upper ≡ drop 64 all) where
  whole : lower ++ upper ≡ all
  whole = rw (front, back) (take-append-drop 64 all)

  lower_half : length all ≡ 128 → length lower ≡ 64
  lower_half full = ap length front ∙ length-take-le 64 all (omega (arith, full))

  upper_half : length all ≡ 128 → length upper ≡ 64
  upper_half full = omega (arith, ap length back, length-drop 64 all, full)

pub add-requires : goal.add-requires
add-requires c = omega (arith, upper_half c.args.self.now c.split.new.self c.split.new.upper c.split.ensures.lower c.split.ensures.upper c.requires.full)

pub add-requires-else-ends_before : goal.add-requires-else-ends_before
add-requires-else-ends_before c = omega (arith, lower_half c.args.self.now c.split.new.self c.split.new.upper c.split.ensures.lower c.split.ensures.upper c.requires.full)

pub returns-then-ends_before-clause-entries : goal.returns-then-ends_before-clause-entries
returns-then-ends_before-clause-entries c =
    ap (λ es. c.split.new.self ++ es) c.add.ensures
    ∙ sym (put_behind c.args.entry c.split.new.self c.split.new.upper (sym c.ends_before.ensures ∙ c.if-ends_before.true))
    ∙ ap (put c.args.entry) (whole c.args.self.now c.split.new.self c.split.new.upper c.split.ensures.lower c.split.ensures.upper)

pub returns-then-ends_before-clause-upper : goal.returns-then-ends_before-clause-upper
returns-then-ends_before-clause-upper c = omega (arith, ap length c.add.ensures, length_put c.args.entry c.split.new.upper)

pub returns-else-ends_before-clause-entries : goal.returns-else-ends_before-clause-entries
returns-else-ends_before-clause-entries c =
    ap (λ es. es ++ c.split.new.upper) c.add-else-ends_before.ensures
    ∙ sym (put_within c.args.entry c.split.new.self c.split.new.upper (sym c.ends_before.ensures ∙ c.if-ends_before.false))
    ∙ ap (put c.args.entry) (whole c.args.self.now c.split.new.self c.split.new.upper c.split.ensures.lower c.split.ensures.upper)

pub returns-else-ends_before-clause-upper : goal.returns-else-ends_before-clause-upper
returns-else-ends_before-clause-upper c =
    omega (arith, upper_half c.args.self.now c.split.new.self c.split.new.upper c.split.ensures.lower c.split.ensures.upper c.requires.full)
