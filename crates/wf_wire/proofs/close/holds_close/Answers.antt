use Rattle.std.proofs.Common.{◌∙◌, ◌+◌, get_or, drop, sym, ap, arith, eq-eqb, ne_eqb}
use Rattle.std.specs.Prelude.{slice_range}
use Rattle.wf_wire.proofs.CloseLemmas.{some_close}
use Rattle.wf_wire.proofs.CloseLemmas.{after_comma, after_byte}
use Rattle.wf_wire.proofs.close.holds_close.Goals.{then-value-at-eq44+else-is_close, else-value-at-eq44}
use Rattle.wf_wire.proofs.close.holds_close.Goals as goal

pub loop-at-preserved : goal.loop-at-preserved
loop-at-preserved c =
    let value = c.args.value.now in
    let at = c.loop-at.at in
    elim c.if-value-at-eq44.branch [
      | then-value-at-eq44+else-is_close w ↦ (
        c.loop-at.invariant.0 ∙ after_comma value c.loop-at.start at c.loop-at-test.true (eq-eqb (get_or value at 0) 44 w.if-value-at-eq44.true) (sym w.is_close.ensures ∙ w.if-is_close.false)
            ∙ ap (λ k. some_close (slice_range value k (at + 1)) (drop (at + 1) value)) (sym w.start-is),
        omega (arith, w.start-is),
      )
      | else-value-at-eq44 w ↦ (
        c.loop-at.invariant.0 ∙ after_byte value c.loop-at.start at c.loop-at.invariant.1 c.loop-at-test.true (ne_eqb (get_or value at 0) 44 w.if-value-at-eq44.false)
            ∙ ap (λ k. some_close (slice_range value k (at + 1)) (drop (at + 1) value)) (sym w.start-is),
        omega (arith, w.start-is, c.loop-at.invariant.1),
      )
    ]
