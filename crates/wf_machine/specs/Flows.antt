-- Kept flows: how they are found, and which of them a change of one concerns.
use Rattle.std.specs.Prelude.{ℕ, ◌==◌, ◌&&◌, ◌||◌, Bool, false, not, is_some, if◌then◌else◌, List, [], filter, map, Option}
use Rattle.std.specs.List.{find}
use Rattle.std.specs.Option.{option_map_or}
use Rattle.wf_names.specs.declared.ids.FlowNo.{FlowNo}
use Rattle.wf_names.specs.declared.ids.TaskNo.{TaskNo}
use Rattle.wf_names.specs.FlowStatus.{flow_is_open}
use Rattle.wf_names.specs.TaskStatus.{task_is_open}
use Rattle.wf_machine.specs.State.{Attempt, Flow, Kept, attempt_numbered}

-- ---- finding

abbrev pub is_flow : FlowNo → Kept → Bool
is_flow number k = k.flow.number.0 == number.0

-- the flow of that number
abbrev pub flow_numbered : FlowNo → List Kept → Option Kept
flow_numbered number flows = find (is_flow number) flows

abbrev pub has_attempt : TaskNo → Kept → Bool
has_attempt task k = is_some (attempt_numbered task k.flow.attempts)

-- the flow that has the attempt of that number
abbrev pub flow_of_task : TaskNo → List Kept → Option Kept
flow_of_task task flows = find (has_attempt task) flows

-- ---- changes

-- a flow that is kept from the entry at that place on
abbrev pub new_kept : ℕ → Flow → Kept
new_kept place f = record { flow = f; revision = place }

-- the flow ends between the two
abbrev pub ends_now : Flow → Flow → Bool
ends_now before now = flow_is_open before.status && not (flow_is_open now.status)

abbrev pub is_parent_of : Flow → FlowNo → Bool
is_parent_of f number = option_map_or (λ (parent : FlowNo × TaskNo). parent.0.0 == number.0) f.parent false

abbrev pub has_open : TaskNo → Flow → Bool
has_open task f = option_map_or (λ (a : Attempt). task_is_open a.status) (attempt_numbered task f.attempts) false

abbrev pub has_numbered : TaskNo → Flow → Bool
has_numbered task f = is_some (attempt_numbered task f.attempts)

-- it holds before, and no more now
abbrev pub stops : (Flow → Bool) → Flow → Flow → Bool
stops test before now = test before && not (test now)

-- the flow's parent is this one, and its attempt there ends between the two, or goes
abbrev pub loses_parent : Flow → Flow → FlowNo × TaskNo → Bool
loses_parent before now parent =
    (parent.0.0 == now.number.0) && (stops (has_open parent.1) before now || stops (has_numbered parent.1) before now)

-- the change of a flow is a change of its parent where the flow ends, and of its children where their attempts end or go
abbrev pub is_concerned : Flow → Flow → Flow → Bool
is_concerned before now f =
    (ends_now before now && is_parent_of now f.number) || option_map_or (loses_parent before now) f.parent false

-- a kept flow after the change of one, by the entry at that place
abbrev pub revised : ℕ → Flow → Flow → Kept → Kept
revised place before now k =
    if is_flow now.number k then new_kept place now
    else if is_concerned before now k.flow then record k { revision = place }
    else k

-- ---- removals

-- a flow that goes: its children lose its attempts
abbrev pub emptied : Flow → Flow
emptied f = record f { attempts = [] }

abbrev pub is_other : FlowNo → Kept → Bool
is_other number k = not (is_flow number k)

-- the kept flows without that one and its attempts, which go by the entry at that place
abbrev pub removed : ℕ → Flow → List Kept → List Kept
removed place f flows = filter (is_other f.number) (map (revised place f (emptied f)) flows)
