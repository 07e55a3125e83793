use Rattle.wf_counter.specs.Totals.{addition}
use Rattle.wf_counter.proofs.AnswerLemmas.{counted_again}
use Rattle.wf_counter.proofs.counting.count_times.Goals as goal

pub loop-preserved : goal.loop-preserved
loop-preserved g c = rw c.in_ok-push.ensures.items (counted_again c.args.lock.now c.loop.counter c.args.pass.now c.loop.pass c.count.new.pass c.loop.answers.items c.in_ok-counted.counted
    (addition c.loop.pass.caller c.args.amount) c.loop.invariant c.in_ok-counted.ensures.added c.in_ok-counted.ensures.total)
