use Rattle.std.proofs.Common.{◌≡◌, ◌++◌, take, drop}
use Rattle.wf_machine.specs.Registered.{without_task_def}
use Rattle.wf_kept.proofs.tasks.place_named.Given as goal

abbrev pub invariant-loop-i : goal.invariant-loop-i
invariant-loop-i l = without_task_def l.name l.defs ≡ take l.i l.defs ++ without_task_def l.name (drop l.i l.defs)
