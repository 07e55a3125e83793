use Rattle.std.proofs.Common.{refl, length, arith}
use Rattle.wf_closing.proofs.PlaceLemmas.{none_behind}
use Rattle.wf_closing.proofs.places.last_place.Goals as goal

pub attempts-init : goal.attempts-init
attempts-init c =
    record { within = omega arith; none = none_behind c.args.node c.args.iteration c.attempts-attempts.result.now (length c.attempts-attempts.result.now) refl }
