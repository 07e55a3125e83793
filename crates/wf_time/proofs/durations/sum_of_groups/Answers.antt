use Rattle.std.proofs.Common.{sym}
use Rattle.wf_time.specs.Durations.{words}
use Rattle.wf_time.proofs.SumLemmas.{pair_added}
use Rattle.wf_time.proofs.durations.sum_of_groups.Goals as goal

pub loop-number-preserved : goal.loop-number-preserved
loop-number-preserved c =
    pair_added (words c.args.text.now) (words c.loop-number.rest.now) (words c.in-Some.after.now) (words c.in_ok-unit.after.now) c.loop-number.sum c.in-Some.number.now c.in_ok-unit.unit.now
    c.loop-number.invariant c.in-Some.ensures.some c.in_ok-unit.ensures.some c.in_ok-sum.field-0 (sym c.in_ok-sum.ensures) c.if-sum-gt-LONGEST.false
