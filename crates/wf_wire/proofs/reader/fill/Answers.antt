use Rattle.std.proofs.Common.{refl, arith, ◌<◌, length}
use Rattle.wf_wire.proofs.ReaderLemmas.{none_given}
use Rattle.wf_wire.proofs.reader.fill.Goals as goal

pub returns-in-Ok-eq0-clause-bytes : goal.returns-in-Ok-eq0-clause-bytes
returns-in-Ok-eq0-clause-bytes g c =
    let some : 0 < length c.read.new.room = first_of (omega (arith, c.read.auto.room, c.if-most-eq0.false), grind (arith, c.read.auto.room, c.if-most-eq0.false)) in
    let t = none_given c.args.held.now.items c.args.cap.now c.in-Ok-eq0.field-0 _ _ c.read.new.room c.in-Ok-eq0.field-0-test some c.in-Ok-eq0.ensures.bytes in
    (refl, t.0, t.1)
