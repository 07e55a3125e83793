use Rattle.std.proofs.Common.{◌≡◌, ◌∙◌, sym, arith, false}
use Rattle.wf_sorted.specs.Order.{holds}
use Rattle.wf_sorted.proofs.OrderLemmas.{is_place, found_at, missing_at, without_missing}
use Rattle.wf_sorted.proofs.block.place_of.Goals as goal
use Rattle.wf_sorted.proofs.block.place_of.Goals.{else-place-items-via-then-place-items+else-is_same, else-place-items-via-else-place-items}

pub returns-then-is_same-clause-there : goal.returns-then-is_same-clause-there
returns-then-is_same-clause-there c =
    let place = is_place c.args.entry c.args.items.now c.place_in-place.result c.place_in-place.ensures.bound c.place_in-place.ensures.parted in
    sym (found_at c.args.entry (record { moment = 0; number = 0 }) c.args.items.now c.place_in-place.result place c.if-place-items.true (sym c.is_same.ensures ∙ c.if-is_same.true)).there

pub returns-then-is_same-clause-some : goal.returns-then-is_same-clause-some
returns-then-is_same-clause-some c =
    let place = is_place c.args.entry c.args.items.now c.place_in-place.result c.place_in-place.ensures.bound c.place_in-place.ensures.parted in
    (c.if-place-items.true, (found_at c.args.entry (record { moment = 0; number = 0 }) c.args.items.now c.place_in-place.result place c.if-place-items.true (sym c.is_same.ensures ∙ c.if-is_same.true)).left)

missing : (c : goal.Joined-else-place-items) → holds c.args.entry c.args.items.now ≡ false
missing c =
    let place = is_place c.args.entry c.args.items.now c.place_in-place.result c.place_in-place.ensures.bound c.place_in-place.ensures.parted in
    elim c.else-place-items.branch [
      | else-place-items-via-then-place-items+else-is_same w ↦
          missing_at c.args.entry (record { moment = 0; number = 0 }) c.args.items.now c.place_in-place.result c.requires place
          (λ within. sym w.is_same.ensures ∙ w.if-is_same.false)
      | else-place-items-via-else-place-items w ↦
          missing_at c.args.entry (record { moment = 0; number = 0 }) c.args.items.now c.place_in-place.result c.requires place
          (λ within. absurd (omega (arith, w.if-place-items.false)))
    ]

pub returns-else-place-items-clause-there : goal.returns-else-place-items-clause-there
returns-else-place-items-clause-there c = sym (missing c)

pub returns-else-place-items-clause-none : goal.returns-else-place-items-clause-none
returns-else-place-items-clause-none c = without_missing c.args.entry c.args.items.now (missing c)
