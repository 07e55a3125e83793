-- The table of paths and methods.
use Rattle.std.specs.Prelude.{ℕ, List, [], ◌∷◌, codes}
use Rattle.wf_routes.specs.declared.table.Call.{Call}
use Rattle.wf_routes.specs.declared.table.Method.{Method}
use Rattle.wf_routes.specs.declared.table.Method.TheVariants.{Delete, Get, Post, Put}
use Rattle.wf_routes.specs.declared.table.Path.{Path}
use Rattle.wf_routes.specs.declared.table.Path.TheVariants.{AdminShutdown, AdminSweep, TaskDefName, TaskDefList, FlowDefVersion, FlowDefName, FlowDefList, TaskPollBatch, TaskPoll, Task, Tasks, FlowDecide, FlowRunning, FlowPause, FlowRemove, FlowRerun, FlowRestart, FlowResume, FlowRetry, FlowSkipTask, Flow, Flows}
use Rattle.wf_routes.specs.declared.table.TheConstants.Path.{ALL}
use Rattle.wf_routes.specs.declared.table.Route.{Route}
use Rattle.wf_routes.specs.declared.table.Route.TheVariants.{Shutdown, Sweep, DropTaskDef, TaskDefNamed, TaskDefs, PutTaskDefs, UpdateTaskDef, DropFlowDef, FlowDefNamed, FlowDefs, AddFlowDef, PutFlowDefs, PollBatch, Poll, GetTask, Update, Decide, Running, Pause, Remove, Rerun, Restart, Resume, Retry, Skip, Terminate, GetFlow, StartNamed, Start}
use Rattle.wf_routes.specs.declared.table.Row.{Row}

-- the name of a method in a request
abbrev pub method_text : Method → List ℕ
method_text Delete = codes "DELETE"
method_text Get = codes "GET"
method_text Post = codes "POST"
method_text Put = codes "PUT"

-- what the table says of a path: its pattern, its methods as the field `Allow` lists them, and what
-- each method asks for
pub record PathRow : Type 0 where
  pub pattern : List ℕ
  pub allow : List ℕ
  pub calls : List Call

-- what a row of the program says
abbrev pub row_shown : Row → PathRow
row_shown row = record { pattern = row.pattern.now; allow = row.allow.now; calls = row.calls.now }

-- a method, and what it asks for
abbrev pub asks : Method → Route → Call
asks method route = record { 0 = method; 1 = route }

-- a row of the table
abbrev pub listed : List ℕ → List ℕ → List Call → PathRow
listed pattern allow calls = record { pattern = pattern; allow = allow; calls = calls }

-- the table
abbrev pub path_row : Path → PathRow
path_row AdminShutdown = listed (codes "/api/admin/shutdown") (codes "POST") (asks Post Shutdown ∷ [])
path_row AdminSweep = listed (codes "/api/admin/sweep") (codes "POST") (asks Post Sweep ∷ [])
path_row TaskDefName = listed (codes "/api/metadata/taskdefs/{name}") (codes "DELETE, GET") (asks Delete DropTaskDef ∷ asks Get TaskDefNamed ∷ [])
path_row TaskDefList = listed (codes "/api/metadata/taskdefs") (codes "GET, POST, PUT") (asks Get TaskDefs ∷ asks Post PutTaskDefs ∷ asks Put UpdateTaskDef ∷ [])
path_row FlowDefVersion = listed (codes "/api/metadata/workflow/{name}/{version}") (codes "DELETE") (asks Delete DropFlowDef ∷ [])
path_row FlowDefName = listed (codes "/api/metadata/workflow/{name}") (codes "GET") (asks Get FlowDefNamed ∷ [])
path_row FlowDefList = listed (codes "/api/metadata/workflow") (codes "GET, POST, PUT") (asks Get FlowDefs ∷ asks Post AddFlowDef ∷ asks Put PutFlowDefs ∷ [])
path_row TaskPollBatch = listed (codes "/api/tasks/poll/batch/{type}") (codes "GET") (asks Get PollBatch ∷ [])
path_row TaskPoll = listed (codes "/api/tasks/poll/{type}") (codes "GET") (asks Get Poll ∷ [])
path_row Task = listed (codes "/api/tasks/{task}") (codes "GET") (asks Get GetTask ∷ [])
path_row Tasks = listed (codes "/api/tasks") (codes "POST") (asks Post Update ∷ [])
path_row FlowDecide = listed (codes "/api/workflow/decide/{key}") (codes "PUT") (asks Put Decide ∷ [])
path_row FlowRunning = listed (codes "/api/workflow/running/{key}") (codes "GET") (asks Get Running ∷ [])
path_row FlowPause = listed (codes "/api/workflow/{key}/pause") (codes "PUT") (asks Put Pause ∷ [])
path_row FlowRemove = listed (codes "/api/workflow/{key}/remove") (codes "DELETE") (asks Delete Remove ∷ [])
path_row FlowRerun = listed (codes "/api/workflow/{key}/rerun") (codes "POST") (asks Post Rerun ∷ [])
path_row FlowRestart = listed (codes "/api/workflow/{key}/restart") (codes "POST") (asks Post Restart ∷ [])
path_row FlowResume = listed (codes "/api/workflow/{key}/resume") (codes "PUT") (asks Put Resume ∷ [])
path_row FlowRetry = listed (codes "/api/workflow/{key}/retry") (codes "POST") (asks Post Retry ∷ [])
path_row FlowSkipTask = listed (codes "/api/workflow/{key}/skiptask/{ref}") (codes "PUT") (asks Put Skip ∷ [])
path_row Flow = listed (codes "/api/workflow/{key}") (codes "DELETE, GET, POST") (asks Delete Terminate ∷ asks Get GetFlow ∷ asks Post StartNamed ∷ [])
path_row Flows = listed (codes "/api/workflow") (codes "POST") (asks Post Start ∷ [])

-- the paths in the table's order
abbrev pub paths : List Path
paths = ALL
