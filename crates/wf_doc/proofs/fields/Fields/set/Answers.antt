use Rattle.std.proofs.Common.{refl, ◌∙◌}
use Rattle.wf_doc.proofs.FieldLemmas.{made_ordered}
use Rattle.wf_doc.proofs.fields.Fields.set.Goals as goal

pub invariant_of-self : goal.invariant_of-self
invariant_of-self g c = made_ordered g.row.T.Denot c.as_str.result.now c.args.value _ c.deref.result.now _ c.deref.ensures.value c.self.invariant
    (c.place-at.ensures.put c.args.value ∙ rw (c.if-found.true, c.in_ok-entry.ensures, c.deref.ensures.value, c.as_str.ensures.bytes) refl)

pub invariant_of-self-in-Continue-branch-2 : goal.invariant_of-self-in-Continue-branch-2
invariant_of-self-in-Continue-branch-2 g c = made_ordered g.row.T.Denot c.as_str.result.now c.args.value _ c.deref.result.now _ c.deref.ensures.value c.self.invariant
    (c.place-at.ensures.put c.args.value ∙ rw (c.if-found.false, c.in_ok-insert.ensures.items, c.in_ok-entry.ensures, c.deref.ensures.value, c.as_str.ensures.bytes) refl)
