use Rattle.std.proofs.Common.{◌∙◌, arith}
use Rattle.wf_doc.proofs.FieldLemmas.{put_same}
use Rattle.wf_doc.proofs.fields.place.Goals as goal

pub returns-in-Equal-clause-put : goal.returns-in-Equal-clause-put
returns-in-Equal-clause-put g c = λ v. c.loop-i.invariant v ∙ put_same g.row.T.Denot c.args.key.now v c.args.items.now c.loop-i.i c.index-items-i.result (grind arith) (grind arith) (grind arith)
