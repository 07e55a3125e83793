-- The statuses of workflows: their words, and which of them are open and terminal.
use Rattle.std.specs.Prelude.{ℕ, Bool, true, false, not, List, [], ◌∷◌, Option, codes, bytes_eq, find}
use Rattle.wf_names.specs.declared.statuses.FlowStatus.{FlowStatus}
use Rattle.wf_names.specs.declared.statuses.FlowStatus.TheVariants.{Running, Paused, Completed, Failed, TimedOut, Terminated}

-- the word that prints a status
abbrev pub flow_status_text : FlowStatus → List ℕ
flow_status_text Running = codes "RUNNING"
flow_status_text Paused = codes "PAUSED"
flow_status_text Completed = codes "COMPLETED"
flow_status_text Failed = codes "FAILED"
flow_status_text TimedOut = codes "TIMED_OUT"
flow_status_text Terminated = codes "TERMINATED"

-- every status
abbrev pub flow_statuses : List FlowStatus
flow_statuses = Running ∷ Paused ∷ Completed ∷ Failed ∷ TimedOut ∷ Terminated ∷ []

-- the status that a text is the word of
unfoldable pub flow_status_named : List ℕ → Option FlowStatus
flow_status_named text = find (λ status. bytes_eq (flow_status_text status) text) flow_statuses

-- the workflow goes on
abbrev pub flow_is_open : FlowStatus → Bool
flow_is_open Running = true
flow_is_open Paused = true
flow_is_open _ = false

-- the workflow has ended
abbrev pub flow_is_terminal : FlowStatus → Bool
flow_is_terminal status = not (flow_is_open status)
