use Rattle.std.proofs.Common.{◌≡◌, drop}
use Rattle.wf_sorted.specs.Order.{holds}
use Rattle.wf_queue.specs.Plain.{waiting_of}
use Rattle.wf_queue.proofs.plain.place_of.Given as goal

-- the entry waits where it waits among those that are left
abbrev pub invariant-loop-place : goal.invariant-loop-place
invariant-loop-place l = holds l.entry (waiting_of l.queue (drop l.place l.items)) ≡ holds l.entry (waiting_of l.queue l.items)
