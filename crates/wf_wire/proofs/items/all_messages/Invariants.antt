use Rattle.std.proofs.Common.{◌≤◌, ◌+◌, length}
use Rattle.wf_wire.proofs.StreamLemmas.{SoFar}
use Rattle.wf_wire.proofs.items.all_messages.Given as goal

abbrev pub invariant-loop : goal.invariant-loop
invariant-loop g l =
    SoFar l.limits (g.S.Source.left l.fn.source) l.messages.items l.inbox (g.S.Source.left l.source)
    × (g.S.Source.faults l.fn.source ≤ g.S.Source.faults l.source) × (l.inbox.offset + length l.inbox.held ≤ l.limits.input)
