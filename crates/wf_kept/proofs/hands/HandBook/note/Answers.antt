use Rattle.std.proofs.Common.{subst, sym}
use Rattle.wf_kept.specs.Hands.{NamesRise}
use Rattle.wf_kept.proofs.HandLemmas.{names_noted, no_gap, noted}
use Rattle.wf_kept.proofs.hands.HandBook.note.Goals as goal

pub invariant_of-self : goal.invariant_of-self
invariant_of-self c = rw c.note.ensures (subst NamesRise (sym (names_noted c.args.moment _ c.in-Ok.place _ c.index_mut-row.ensures.value)) c.self.invariant)

pub returns-in-Ok-clause-lists : goal.returns-in-Ok-clause-lists
returns-in-Ok-clause-lists c =
    let there = rw c.deref.ensures.value at c.in-Ok.ensures.found in
    rw (c.note.ensures, ← c.self.view_is) (noted c.args.name.now c.args.moment _ c.in-Ok.place _ c.self.invariant there c.index_mut-row.ensures.value)

pub returns-in-Ok-clause-ready : goal.returns-in-Ok-clause-ready
returns-in-Ok-clause-ready c = rw (c.note.ensures, ← c.self.view_is) (names_noted c.args.moment _ c.in-Ok.place _ c.index_mut-row.ensures.value)

-- a name that is ready has a row
pub returns-in_default-clause-lists : goal.returns-in_default-clause-lists
returns-in_default-clause-lists c =
    no_gap c.args.name.now _ _ (rw c.deref.ensures.value at c.in_default.ensures.gap) (rw (← c.self.view_is) at c.requires)
