use Rattle.std.proofs.Common.{◌∙◌, arith}
use Rattle.wf_kept.proofs.RegistryLemmas.{put_same_flow}
use Rattle.wf_kept.proofs.registry.place.Goals as goal

pub returns-in-Equal-clause-put : goal.returns-in-Equal-clause-put
returns-in-Equal-clause-put c = c.loop-i.invariant ∙ put_same_flow c.args.def.now c.args.defs.now c.loop-i.i c.index-defs-i.result (grind arith) (grind arith) (grind arith)
