-- A status is the one that its word names, and a word names no other.
use Rattle.std.proofs.Common.{◌≡◌, ◌↔◌, ℕ, List, Some, refl, sym, ap, ◌∙◌}
use Rattle.std.specs.Str.{bytes_eq}
use Rattle.std.proofs.lemmas.Slice.Eq.{bytes_eq-Decides}
use Rattle.wf_names.proofs.SearchLemmas.{found_passes}
use Rattle.wf_names.specs.declared.statuses.TaskStatus.{TaskStatus}
use Rattle.wf_names.specs.declared.statuses.TaskStatus.TheVariants as task
use Rattle.wf_names.specs.declared.statuses.FlowStatus.{FlowStatus}
use Rattle.wf_names.specs.declared.statuses.FlowStatus.TheVariants as flow
use Rattle.wf_names.specs.TaskStatus.{task_status_named, task_status_text, task_statuses}
use Rattle.wf_names.specs.FlowStatus.{flow_status_named, flow_status_text, flow_statuses}

pub task_status_named-task_status_text : (status : TaskStatus) → task_status_named (task_status_text status) ≡ Some status
unfolding task_status_named
task_status_named-task_status_text task.Scheduled = refl
task_status_named-task_status_text task.InProgress = refl
task_status_named-task_status_text task.Completed = refl
task_status_named-task_status_text task.CompletedWithErrors = refl
task_status_named-task_status_text task.Skipped = refl
task_status_named-task_status_text task.Failed = refl
task_status_named-task_status_text task.FailedWithTerminalError = refl
task_status_named-task_status_text task.TimedOut = refl
task_status_named-task_status_text task.Canceled = refl

pub task_status_named-exact : (text : List ℕ) (status : TaskStatus) → (task_status_named text ≡ Some status) ↔ (text ≡ task_status_text status)
unfolding task_status_named
task_status_named-exact text status = (
  λ named. sym ((bytes_eq-Decides (task_status_text status) text).0 (found_passes (λ s. bytes_eq (task_status_text s) text) task_statuses status named)),
  λ is_word. ap task_status_named is_word ∙ task_status_named-task_status_text status,
)

pub flow_status_named-flow_status_text : (status : FlowStatus) → flow_status_named (flow_status_text status) ≡ Some status
unfolding flow_status_named
flow_status_named-flow_status_text flow.Running = refl
flow_status_named-flow_status_text flow.Paused = refl
flow_status_named-flow_status_text flow.Completed = refl
flow_status_named-flow_status_text flow.Failed = refl
flow_status_named-flow_status_text flow.TimedOut = refl
flow_status_named-flow_status_text flow.Terminated = refl

pub flow_status_named-exact : (text : List ℕ) (status : FlowStatus) → (flow_status_named text ≡ Some status) ↔ (text ≡ flow_status_text status)
unfolding flow_status_named
flow_status_named-exact text status = (
  λ named. sym ((bytes_eq-Decides (flow_status_text status) text).0 (found_passes (λ s. bytes_eq (flow_status_text s) text) flow_statuses status named)),
  λ is_word. ap flow_status_named is_word ∙ flow_status_named-flow_status_text status,
)
