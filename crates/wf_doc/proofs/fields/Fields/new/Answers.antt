use Rattle.wf_doc.proofs.FieldLemmas.{none_ordered}
use Rattle.wf_doc.proofs.fields.Fields.new.Goals as goal

pub invariant_of-result : goal.invariant_of-result
invariant_of-result g c = none_ordered g.row.T.Denot _ c.new.ensures.items
