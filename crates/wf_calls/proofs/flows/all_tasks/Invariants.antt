use Rattle.std.proofs.Common.{◌≡◌, ◌++◌, drop, filter, map, not}
use Rattle.wf_machine.specs.Documents.{task_document}
use Rattle.wf_calls.proofs.flows.all_tasks.Given as goal

-- the documents so far, and those of the attempts that are left
abbrev pub invariant-loop-attempt : goal.invariant-loop-attempt
invariant-loop-attempt l =
    l.docs ++ map (task_document l.mark l.flow.flow) (filter (λ a. not a.superseded) (drop l.attempt-index l.attempt-items))
    ≡ map (task_document l.mark l.flow.flow) (filter (λ a. not a.superseded) l.attempt-items)
