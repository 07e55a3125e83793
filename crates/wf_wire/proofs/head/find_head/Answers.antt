use Rattle.std.proofs.Common.{◌≡◌, ap, Err, false, true}
use Rattle.wf_wire.proofs.RoomLemmas.{few, none_here}
use Rattle.wf_wire.proofs.head.find_head.Goals as goal

pub returns-then-ends_in_target : goal.returns-then-ends_in_target
returns-then-ends_in_target c =
    let never = c.in-Err.ensures.invalid (λ e. few _ _ (c.in-Err.ensures.too_many (ap Err e)) c.requires) in
    (none_here _ never, λ bad. bad.1 (c.ends_in_target.ensures.0 c.if-ends_in_target.true))

pub returns-else-ends_in_target : goal.returns-else-ends_in_target
returns-else-ends_in_target c =
    let never = c.in-Err.ensures.invalid (λ e. few _ _ (c.in-Err.ensures.too_many (ap Err e)) c.requires) in
    (never, λ t. let no : false ≡ true = c.if-ends_in_target.ensures.1 t in cc)
