use Rattle.std.proofs.Common.{◌≡◌, ◌++◌, take, drop}
use Rattle.wf_machine.specs.Registered.{with_task_def}
use Rattle.wf_kept.proofs.tasks.place.Given as goal

abbrev pub invariant-loop-i : goal.invariant-loop-i
invariant-loop-i l = with_task_def l.def l.defs ≡ take l.i l.defs ++ with_task_def l.def (drop l.i l.defs)
