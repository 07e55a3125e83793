-- The statuses of tasks: their words, and which of them are open, terminal and successful.
use Rattle.std.specs.Prelude.{ℕ, Bool, true, false, not, List, [], ◌∷◌, Option, codes, bytes_eq, find}
use Rattle.wf_names.specs.declared.statuses.TaskStatus.{TaskStatus}
use Rattle.wf_names.specs.declared.statuses.TaskStatus.TheVariants.{Scheduled, InProgress, Completed, CompletedWithErrors, Skipped, Failed, FailedWithTerminalError, TimedOut, Canceled}

-- the word that prints a status
abbrev pub task_status_text : TaskStatus → List ℕ
task_status_text Scheduled = codes "SCHEDULED"
task_status_text InProgress = codes "IN_PROGRESS"
task_status_text Completed = codes "COMPLETED"
task_status_text CompletedWithErrors = codes "COMPLETED_WITH_ERRORS"
task_status_text Skipped = codes "SKIPPED"
task_status_text Failed = codes "FAILED"
task_status_text FailedWithTerminalError = codes "FAILED_WITH_TERMINAL_ERROR"
task_status_text TimedOut = codes "TIMED_OUT"
task_status_text Canceled = codes "CANCELED"

-- every status
abbrev pub task_statuses : List TaskStatus
task_statuses = Scheduled ∷ InProgress ∷ Completed ∷ CompletedWithErrors ∷ Skipped ∷ Failed ∷ FailedWithTerminalError ∷ TimedOut ∷ Canceled ∷ []

-- the status that a text is the word of
unfoldable pub task_status_named : List ℕ → Option TaskStatus
task_status_named text = find (λ status. bytes_eq (task_status_text status) text) task_statuses

-- the attempt goes on
abbrev pub task_is_open : TaskStatus → Bool
task_is_open Scheduled = true
task_is_open InProgress = true
task_is_open _ = false

-- the attempt has ended
abbrev pub task_is_terminal : TaskStatus → Bool
task_is_terminal status = not (task_is_open status)

-- the attempt has ended and lets its workflow go on
abbrev pub task_is_successful : TaskStatus → Bool
task_is_successful Completed = true
task_is_successful CompletedWithErrors = true
task_is_successful Skipped = true
task_is_successful _ = false
