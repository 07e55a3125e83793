-- The statuses that calls ask a flow for.
use Rattle.std.specs.Prelude.{Bool, true, false}
use Rattle.wf_names.specs.declared.statuses.FlowStatus.{FlowStatus}
use Rattle.wf_names.specs.declared.statuses.FlowStatus.TheVariants.{Running, Paused, Completed}

abbrev pub is_running : FlowStatus → Bool
is_running Running = true
is_running _ = false

abbrev pub is_paused : FlowStatus → Bool
is_paused Paused = true
is_paused _ = false

abbrev pub is_completed : FlowStatus → Bool
is_completed Completed = true
is_completed _ = false
