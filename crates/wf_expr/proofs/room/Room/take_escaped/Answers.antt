use Rattle.std.proofs.Common.{arith}
use Rattle.std.proofs.lemmas.List.Folds.{length-flat_map-take}
use Rattle.std.proofs.lemmas.Result.{err_from_is_err_and}
use Rattle.json.specs.Print.{escape_byte}
use Rattle.wf_expr.proofs.room.Room.take_escaped.Goals as goal

pub returns-in_err-take-clause-large : goal.returns-in_err-take-clause-large
returns-in_err-take-clause-large c =
    let more = length-flat_map-take escape_byte c.args.bytes.now c.loop-byte.byte-index 0 c.loop-byte-test.true in
    let p = err_from_is_err_and c.from_residual.result c.from_residual.ensures.1 in
    rw (p.1, p.2) (c.in_err-take.ensures.large.0, omega (arith, c.in_err-take.ensures.large.1, more))
