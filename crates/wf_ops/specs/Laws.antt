-- Words of the laws on what operators do.
use Rattle.std.specs.Prelude.{◌||◌, Bool, not}
use Rattle.wf_names.specs.TaskStatus.{task_is_successful}
use Rattle.wf_machine.specs.declared.definition.FlowDef.{FlowDef}
use Rattle.wf_machine.specs.State.{Attempt}
use Rattle.wf_machine.specs.Records.{is_kind_at}
use Rattle.wf_machine.specs.Operators.{is_terminate}

-- it wasn't successful, or it ended the flow
abbrev pub is_to_redo : FlowDef → Attempt → Bool
is_to_redo def a = not (task_is_successful a.status) || is_kind_at is_terminate def a.node
