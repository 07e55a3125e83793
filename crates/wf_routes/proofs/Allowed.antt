-- What holds of each row, by its cases.
use Rattle.std.proofs.Common.{◌≡◌, true, refl}
use Rattle.wf_routes.specs.Asked.{allow_text}
use Rattle.wf_routes.specs.Laws.{methods_rise}
use Rattle.wf_routes.specs.Table.{path_row}
use Rattle.wf_routes.specs.declared.table.Path.{Path}
use Rattle.wf_routes.specs.declared.table.Path.TheVariants.{AdminShutdown, AdminSweep, TaskDefName, TaskDefList, FlowDefVersion, FlowDefName, FlowDefList, TaskPollBatch, TaskPoll, Task, Tasks, FlowDecide, FlowRunning, FlowPause, FlowRemove, FlowRerun, FlowRestart, FlowResume, FlowRetry, FlowSkipTask, Flow, Flows}

-- its methods are those of its calls
pub allowed : (path : Path) → (path_row path).allow ≡ allow_text (path_row path).calls
allowed AdminShutdown = refl
allowed AdminSweep = refl
allowed TaskDefName = refl
allowed TaskDefList = refl
allowed FlowDefVersion = refl
allowed FlowDefName = refl
allowed FlowDefList = refl
allowed TaskPollBatch = refl
allowed TaskPoll = refl
allowed Task = refl
allowed Tasks = refl
allowed FlowDecide = refl
allowed FlowRunning = refl
allowed FlowPause = refl
allowed FlowRemove = refl
allowed FlowRerun = refl
allowed FlowRestart = refl
allowed FlowResume = refl
allowed FlowRetry = refl
allowed FlowSkipTask = refl
allowed Flow = refl
allowed Flows = refl

-- its calls stand in the order of their methods
pub rising : (path : Path) → methods_rise (path_row path).calls ≡ true
rising AdminShutdown = refl
rising AdminSweep = refl
rising TaskDefName = refl
rising TaskDefList = refl
rising FlowDefVersion = refl
rising FlowDefName = refl
rising FlowDefList = refl
rising TaskPollBatch = refl
rising TaskPoll = refl
rising Task = refl
rising Tasks = refl
rising FlowDecide = refl
rising FlowRunning = refl
rising FlowPause = refl
rising FlowRemove = refl
rising FlowRerun = refl
rising FlowRestart = refl
rising FlowResume = refl
rising FlowRetry = refl
rising FlowSkipTask = refl
rising Flow = refl
rising Flows = refl
