use Rattle.std.proofs.Common.{◌≡◌, ◌≤◌, length, reverse}
use Rattle.wf_machine.specs.Registered.{with_task_defs}
use Rattle.wf_kept.proofs.tasks.register_tasks.Given as goal

-- those that are left stand from the last, and have room
abbrev pub invariant-loop-def : goal.invariant-loop-def
invariant-loop-def l =
    (with_task_defs (reverse l.more.items) l.defs.items ≡ with_task_defs l.fn.more.items l.initial.defs.items)
    × (length l.more.items ≤ l.defs.spare)

abbrev pub decreases-loop-def : goal.decreases-loop-def
decreases-loop-def l = length l.more.items
