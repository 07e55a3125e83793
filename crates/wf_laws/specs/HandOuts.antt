-- Hand-outs of one attempt in a history.
use Rattle.std.specs.Prelude.{◌≡◌, ℕ, ◌+◌, ◌==◌, ◌&&◌, ◌||◌, max, Bool, true, false, List, [], ◌∷◌, Option, None, Some, option_map}
use Rattle.wf_names.specs.declared.ids.TaskNo.{TaskNo}
use Rattle.wf_names.specs.declared.statuses.TaskStatus.{TaskStatus}
use Rattle.wf_names.specs.declared.statuses.TaskStatus.TheVariants.{InProgress}
use Rattle.wf_wire.specs.declared.limits.Limits.{Limits}
use Rattle.wf_steps.specs.declared.calling.Call.{Call}
use Rattle.wf_steps.specs.declared.calling.Call.TheVariants.{Poll, Update}
use Rattle.wf_steps.specs.declared.calling.Entry.{Entry}
use Rattle.wf_machine.specs.declared.calling.Reply.{Reply}
use Rattle.wf_machine.specs.declared.calling.Reply.TheVariants.{Id}
use Rattle.wf_machine.specs.Queues.{next_waiting}
use Rattle.wf_machine.specs.State.{State}
use Rattle.wf_steps.specs.Calls.{step}

-- the attempt that a call at the moment e hands out, where it hands one out
abbrev pub handed_by : ℕ → Call → State → Option TaskNo
handed_by e (Poll name worker) s = option_map (λ w. w.attempt.number) (next_waiting name e s.flows)
handed_by e call s = None

-- the entry hands that attempt out
pub record HandsOut (s : State) (entry : Entry) (task : TaskNo) : Type 0 where
  pub fed : entry.starved ≡ false
  pub handed : handed_by (max s.last entry.moment) entry.call s ≡ Some task

abbrev pub is_in_progress : TaskStatus → Bool
is_in_progress InProgress = true
is_in_progress status = false

-- an update tells that the attempt goes on
abbrev pub tells_on : TaskNo → Call → Bool
tells_on task (Update wanted number outcome) = (number.0 == task.0) && is_in_progress outcome.status
tells_on task call = false

-- an update is accepted where its answer is the attempt's id
abbrev pub is_accepted : Reply → Bool
is_accepted (Id kind number) = true
is_accepted reply = false

-- among the entries, of which the first comes after that many and finds the state s, is an accepted update that tells that
-- the attempt goes on
abbrev pub is_told_on : Limits → ℕ → State → List Entry → TaskNo → Bool
is_told_on limits before s [] task = false
is_told_on limits before s (entry ∷ rest) task =
    (tells_on task entry.call && is_accepted (step limits (before + 1) s entry).reply)
    || is_told_on limits (before + 1) (step limits (before + 1) s entry).state rest task
