use Rattle.std.proofs.lemmas.List.{map-append}
use Rattle.wf_kept.proofs.FlowLemmas.{tied_added}
use Rattle.wf_kept.proofs.flows.KeptFlows.add.Goals as goal

pub invariant_of-self : goal.invariant_of-self
invariant_of-self c =
    rw (c.add.ensures.items, map-append, c.add_rows.ensures.items, c.attempts.ensures.value, c.number.ensures)
    (tied_added _ _ _ _ _ _ c.self.invariant (rw (← c.self.view_is) at c.requires.number) (rw (← c.self.view_is) at c.requires.numbers_left)
    (rw (← c.self.view_is) at c.requires.attempts) c.requires.limit)
