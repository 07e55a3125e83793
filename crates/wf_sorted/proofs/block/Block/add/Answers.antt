use Rattle.std.proofs.Common.{◌≡◌, ◌∙◌, sym, subst, rules}
use Rattle.wf_sorted.specs.Order.{Rising, put}
use Rattle.wf_sorted.proofs.OrderLemmas.{is_place, put_at, rising_put}
use Rattle.wf_sorted.proofs.block.Block.add.Goals as goal

inserted : (c : goal.After-insert_at) → c.insert_at.new.items.items ≡ put c.args.entry c.self.inside.items.items
inserted c =
    let place = rw c.deref.ensures.value at (is_place c.args.entry c.deref.result.now c.place_in-place.result c.place_in-place.ensures.bound c.place_in-place.ensures.parted) in
    c.insert_at.ensures.items ∙ sym (put_at c.args.entry c.self.inside.items.items c.place_in-place.result place)

pub returns : goal.returns
returns c = rw (← c.self.view_is) (inserted c)

pub invariant_of-self : goal.invariant_of-self
invariant_of-self c = (search rules, search rules, subst Rising (sym (inserted c)) (rising_put c.args.entry c.self.inside.items.items c.self.invariant.2))
