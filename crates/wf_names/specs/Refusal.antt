-- The table of refusals: the code, the HTTP status and the message of each.
use Rattle.std.specs.Prelude.{ℕ, List, codes}
use Rattle.wf_names.specs.declared.refusals.Refusal.{Refusal}
use Rattle.wf_names.specs.declared.refusals.Refusal.TheVariants.{NotFound, Exists, NotRunning, NotPaused, NotTerminal, WasCompleted, NotRestartable, IsChild, NotRerunnable, AlreadyScheduled, NotUpdatable, StoreFull, AttemptLimit, DocumentLimit, NoMemory}

-- a row of the table: code, status, message
abbrev pub refusal_row : Refusal → List ℕ × ℕ × List ℕ
refusal_row NotFound = (codes "NOT_FOUND", 404, codes "no such thing")
refusal_row Exists = (codes "EXISTS", 409, codes "already registered")
refusal_row NotRunning = (codes "NOT_RUNNING", 409, codes "the workflow is not running")
refusal_row NotPaused = (codes "NOT_PAUSED", 409, codes "the workflow is not paused")
refusal_row NotTerminal = (codes "NOT_TERMINAL", 409, codes "the workflow has not ended")
refusal_row WasCompleted = (codes "WAS_COMPLETED", 409, codes "the workflow was completed")
refusal_row NotRestartable = (codes "NOT_RESTARTABLE", 409, codes "the workflow is not restartable")
refusal_row IsChild = (codes "IS_CHILD", 409, codes "the workflow is a child")
refusal_row NotRerunnable = (codes "NOT_RERUNNABLE", 409, codes "no rerun from this task")
refusal_row AlreadyScheduled = (codes "ALREADY_SCHEDULED", 409, codes "the task was scheduled")
refusal_row NotUpdatable = (codes "NOT_UPDATABLE", 409, codes "the task takes no update")
refusal_row StoreFull = (codes "STORE_FULL", 409, codes "the store is full")
refusal_row AttemptLimit = (codes "ATTEMPT_LIMIT", 409, codes "too many attempts")
refusal_row DocumentLimit = (codes "DOCUMENT_LIMIT", 409, codes "the document is too large")
refusal_row NoMemory = (codes "NO_MEMORY", 500, codes "no memory")

-- the code that names a refusal to a program
abbrev pub refusal_code : Refusal → List ℕ
refusal_code refusal = (refusal_row refusal).0

-- the status of its HTTP reply
abbrev pub refusal_status : Refusal → ℕ
refusal_status refusal = (refusal_row refusal).1

-- its message for people
abbrev pub refusal_message : Refusal → List ℕ
refusal_message refusal = (refusal_row refusal).2
