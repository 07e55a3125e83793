use Rattle.wf_counter.specs.Totals.{HasCounted}
use Rattle.wf_counter.proofs.counting.count_times.Given as goal

abbrev pub invariant-loop : goal.invariant-loop
invariant-loop g l = HasCounted l.lock l.counter l.initial.pass l.answers.items l.pass
