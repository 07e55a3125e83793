use Rattle.std.proofs.Common.{◌≡◌, find}
use Rattle.std.specs.Array.Iter.{array_into_iter_items}
use Rattle.std.specs.Str.{bytes_eq}
use Rattle.wf_names.specs.TaskStatus.{task_status_named, task_status_text}
use Rattle.wf_names.proofs.statuses.TaskStatus.read.Given as goal

-- the statuses still to be looked at decide
abbrev pub invariant-loop-status : goal.invariant-loop-status
invariant-loop-status l =
    find (λ status. bytes_eq (task_status_text status) l.text) (array_into_iter_items l.status-iterator) ≡ task_status_named l.text
