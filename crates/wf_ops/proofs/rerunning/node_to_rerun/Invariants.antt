use Rattle.std.proofs.Common.{◌≡◌, drop}
use Rattle.wf_machine.specs.Operators.{node_to_rerun}
use Rattle.wf_ops.proofs.rerunning.node_to_rerun.Given as goal

-- the attempt is among those that are left
abbrev pub invariant-loop-place : goal.invariant-loop-place
invariant-loop-place l = node_to_rerun l.def l.task (drop l.place l.attempts) ≡ node_to_rerun l.def l.task l.attempts
