use Rattle.std.proofs.Common.{◌∙◌, ap}
use Rattle.std.specs.Prelude.{option_map}
use Rattle.wf_sorted.specs.declared.entry.Entry.{Entry}
use Rattle.wf_timers.proofs.MarkLemmas.{first_mark}
use Rattle.wf_timers.proofs.marks.Marks.first.Goals as goal

pub returns-in_err-first-clause-value : goal.returns-in_err-first-clause-value
returns-in_err-first-clause-value g c =
    rw (← c.self.view_is)
    (c.from_residual.ensures ∙ ap (option_map (λ (e : Entry). e.number)) c.in_err-first.ensures.value ∙ first_mark c.self.inside.sorted.entries c.self.invariant)

pub returns-clause-value : goal.returns-clause-value
returns-clause-value g c =
    rw (← c.self.view_is)
    (ap (option_map (λ (e : Entry). e.number)) c.in_ok-first.ensures.value ∙ first_mark c.self.inside.sorted.entries c.self.invariant)
