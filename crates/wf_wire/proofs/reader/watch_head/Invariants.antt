use Rattle.std.proofs.Common.{◌*◌, ◌<◌, ◌≤◌, length}
use Rattle.wf_wire.specs.Reading.{Kept}
use Rattle.wf_wire.proofs.reader.watch_head.Given as goal

abbrev pub invariant-reads : goal.invariant-reads
invariant-reads g l =
    Kept l.fn.held.items (g.S.Source.left l.fn.source) l.fn.cap l.held.items (g.S.Source.left l.source) l.cap
    × (g.S.Source.faults l.fn.source ≤ g.S.Source.faults l.source) × (l.limits.head < 3 * length l.spans)

abbrev pub decreases-reads : goal.decreases-reads
decreases-reads g l = l.cap
