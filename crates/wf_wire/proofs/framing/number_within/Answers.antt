use Rattle.wf_wire.proofs.FieldLemmas.{too_great}
use Rattle.wf_wire.proofs.framing.number_within.Goals as goal

pub returns-then-next-limit : goal.returns-then-next-limit
returns-then-next-limit c = too_great c.args.limit c.loop-byte.total c.loop-byte.byte-index c.args.text.now c.loop-byte.invariant.0 c.loop-byte-test.true c.loop-byte.invariant.2 c.if-next-limit.true
