use Rattle.std.proofs.Common.{arith}
use Rattle.wf_limits.proofs.Scans.{scan_hit, scan_more, scan_end}
use Rattle.wf_limits.proofs.plain.PlainHands.place.Goals as goal

pub loop-place-init : goal.loop-place-init
loop-place-init c j below same = absurd (omega (arith, below))

pub returns-then-is_named-clause-found : goal.returns-then-is_named-clause-found
returns-then-is_named-clause-found c =
    scan_hit _ _ c.self.view_is _ _ _ _ c.index.ensures (omega (arith, c.loop-place-test.true, c.len-place-end.ensures)) c.loop-place.invariant c.if-is_named.ensures

pub loop-place-preserved : goal.loop-place-preserved
loop-place-preserved c =
    scan_more _ _ c.self.view_is _ _ _ _ c.index.ensures (omega (arith, c.loop-place-test.true, c.len-place-end.ensures)) c.loop-place.invariant c.if-is_named.ensures

pub returns-clause-absent : goal.returns-clause-absent
returns-clause-absent c = scan_end _ _ c.self.view_is _ _ _ (omega (arith, c.len-place-end.ensures)) c.loop-place-test.false c.loop-place.invariant
