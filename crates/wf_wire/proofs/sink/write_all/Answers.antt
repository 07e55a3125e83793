use Rattle.std.proofs.Common.{drop, arith, length-drop}
use Rattle.std.proofs.lemmas.List.{take_all}
use Rattle.wf_wire.proofs.SinkLemmas.{sent_more}
use Rattle.wf_wire.proofs.sink.write_all.Goals as goal

pub loop-rest-preserved : goal.loop-rest-preserved
loop-rest-preserved g c = (sent_more _ _ _ c.args.bytes.now c.loop-rest.rest.now _ c.in-Ok.count c.loop-rest.invariant.0 c.in-Ok.ensures.bytes (take_all _ (drop c.in-Ok.count c.loop-rest.rest.now) (omega (arith, length-drop c.in-Ok.count c.loop-rest.rest.now))), omega (arith, c.loop-rest.invariant.1, c.in-Ok.ensures.cause))
