use Rattle.std.proofs.Common.{◌≡◌, drop}
use Rattle.wf_queue.proofs.PlainLemmas.{best, join}
use Rattle.wf_queue.proofs.plain.least_ready.Given as goal

-- the least so far and those that are left
abbrev pub invariant-loop-item : goal.invariant-loop-item
invariant-loop-item l = join l.first (best l.moment l.queue (drop l.item-index l.items)) ≡ best l.moment l.queue l.items
