-- How a flow goes on after an operation, and the reply.
use Rattle.std.specs.Prelude.{Bool, true, false, if◌then◌else◌}
use Rattle.wf_names.specs.declared.ids.FlowNo.{FlowNo}
use Rattle.wf_names.specs.declared.ids.IdKind.TheVariants as kind
use Rattle.wf_machine.specs.declared.calling.Reply.{Reply}
use Rattle.wf_machine.specs.declared.calling.Reply.TheVariants.{Accepted, Id}
use Rattle.wf_steps.specs.declared.operation.Operation.{Operation}
use Rattle.wf_steps.specs.declared.operation.Operation.TheVariants.{Restart, Rerun}

-- the flow has no attempts afterwards
abbrev pub begins_anew : Operation → Bool
begins_anew Restart = true
begins_anew _ = false

-- the reply is the flow's id
abbrev pub answers_id : Operation → Bool
answers_id (Rerun task input) = true
answers_id _ = false

abbrev pub reply_of : Bool → FlowNo → Reply
reply_of names number = if names then Id kind.Flow number.0 else Accepted
