use Rattle.std.proofs.Common.{◌≡◌, drop, take, map}
use Rattle.wf_defs.specs.TaskReading.{task_definition}
use Rattle.wf_defs.specs.TaskRules.{task_rule}
use Rattle.wf_defs.specs.Several.{first_fault_in}
use Rattle.wf_defs.proofs.several.read_taskdefs.Given as goal

abbrev pub invariant-loop-n : goal.invariant-loop-n
invariant-loop-n l =
    (l.defs ≡ map task_definition (take l.n l.docs))
    × (first_fault_in task_rule l.n (drop l.n l.docs) ≡ first_fault_in task_rule 0 l.docs)
