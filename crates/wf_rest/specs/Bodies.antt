-- What the bodies of requests say. A field that is null counts as absent, and other keys are ignored.
use Rattle.std.specs.Prelude.{ℕ, ◌==◌, ◌&&◌, ◌||◌, Bool, true, false, if◌then◌else◌, List, length, map, codes, Option, None, Some, is_some, is_none, option_and_then, Result, Ok, Err}
use Rattle.std.specs.Option.{option_map_or}
use Rattle.wf_doc.specs.declared.doc.Doc.{Doc}
use Rattle.wf_doc.specs.Doc.{as_text, as_list, as_table}
use Rattle.wf_names.specs.declared.ids.FlowNo.{FlowNo}
use Rattle.wf_names.specs.declared.ids.IdKind.{IdKind}
use Rattle.wf_names.specs.declared.ids.IdKind.TheVariants as kind
use Rattle.wf_names.specs.Ids.{id_read, kind_octet}
use Rattle.wf_names.specs.declared.statuses.TaskStatus.{TaskStatus}
use Rattle.wf_names.specs.TaskStatus.{task_status_named}
use Rattle.wf_steps.specs.declared.calling.Call.{Call}
use Rattle.wf_steps.specs.declared.calling.Call.TheVariants.{PutTaskDefs, UpdateTaskDef, AddFlowDef, PutFlowDefs, Start, Update, Operate}
use Rattle.wf_steps.specs.declared.operation.Operation.TheVariants.{Rerun, Skip}
use Rattle.wf_machine.specs.declared.calling.TaskResult.{TaskResult}
use Rattle.wf_machine.specs.Tasks.{is_result_status}
use Rattle.wf_fields.specs.declared.fields.Form.TheVariants.{AText, ATable}
use Rattle.wf_fields.specs.Fields.{given, is_given, is_absent_or, is_number, has_form, text_in, number_or, table_in, as_count}
use Rattle.wf_defs.specs.declared.faults.DefFault.{DefFault}
use Rattle.wf_defs.specs.declared.faults.DefFault.TheVariants as definition
use Rattle.wf_defs.specs.TaskRules.{task_rule}
use Rattle.wf_defs.specs.TaskReading.{task_definition}
use Rattle.wf_defs.specs.FlowRules.{flow_rule}
use Rattle.wf_defs.specs.FlowReading.{flow_definition}
use Rattle.wf_defs.specs.Several.{first_fault_in}
use Rattle.wf_rest.specs.declared.faulting.HttpFault.{HttpFault}
use Rattle.wf_rest.specs.declared.faulting.HttpFault.TheVariants as fault

-- a call, or why there is none
abbrev pub Asked : Type 0
Asked = Result Call HttpFault

-- what was read goes on to the next step, and what wasn't says why
abbrev pub then_read : {T U : Type 0} → Result T HttpFault → (T → Result U HttpFault) → Result U HttpFault
then_read (Err fault) f = Err fault
then_read (Ok v) f = f v

-- the value, where the body has its form
abbrev pub if_formed : {T : Type 0} → Bool → T → Result T HttpFault
if_formed true v = Ok v
if_formed false v = Err fault.BadBody

-- ---- definitions

abbrev pub definition_fault : DefFault → HttpFault
definition_fault (definition.Rule rule place) = fault.BadDefinition rule place
definition_fault definition.NoMemory = fault.NoMemory

-- a value, unless a rule of definitions is broken
abbrev pub unless_broken : {T : Type 0} → Option DefFault → T → Result T HttpFault
unless_broken None v = Ok v
unless_broken (Some broken) v = Err (definition_fault broken)

-- the items of the list that the body is
abbrev pub items_of_body : Doc → Result (List Doc) HttpFault
items_of_body d = option_map_or Ok (as_list d) (Err fault.BadBody)

-- task definitions that are registered, or changed
abbrev pub task_defs_of : List Doc → Asked
task_defs_of ds = unless_broken (first_fault_in task_rule 0 ds) (PutTaskDefs (map task_definition ds))

abbrev pub task_def_of : Doc → Asked
task_def_of d = unless_broken (task_rule d) (UpdateTaskDef (task_definition d))

-- workflow definitions
abbrev pub flow_def_of : ℕ → Doc → Asked
flow_def_of most d = unless_broken (flow_rule most d) (AddFlowDef (flow_definition most d))

abbrev pub flow_defs_of : ℕ → List Doc → Asked
flow_defs_of most ds = unless_broken (first_fault_in (flow_rule most) 0 ds) (PutFlowDefs (map (flow_definition most) ds))

-- ---- starts

abbrev pub is_table : Doc → Bool
is_table v = is_some (as_table v)

abbrev pub is_empty : {T : Type 0} → Option (List T) → Bool
is_empty o = option_map_or (λ xs. length xs == 0) o false

-- an empty text, list or table
abbrev pub is_empty_value : Doc → Bool
is_empty_value v = is_empty (as_text v) || is_empty (as_list v) || is_empty (as_table v)

-- the version that the body names, where it names one
abbrev pub version_in : Doc → Option ℕ
version_in d = option_and_then as_count (given (codes "version") d)

-- what a start wants of its body
abbrev pub is_start : Doc → Bool
is_start d =
    is_table d && is_given (has_form AText) (codes "name") d && is_absent_or (is_number 1 2147483647) (codes "version") d
    && is_absent_or (has_form AText) (codes "correlationId") d && is_absent_or (has_form ATable) (codes "input") d
    && is_absent_or is_empty_value (codes "taskToDomain") d && is_none (given (codes "workflowDef") d)
    && is_absent_or is_empty_value (codes "externalInputPayloadStoragePath") d

abbrev pub start_of : Doc → Asked
start_of d =
    if_formed (is_start d) (Start (text_in (codes "name") d) (version_in d) (table_in (codes "input") d) (text_in (codes "correlationId") d))

-- ---- ids

abbrev pub number_as : ℕ → IdKind → ℕ × IdKind × ℕ → ℕ
number_as mark kind id = if (id.0 == mark) && (kind_octet id.1 == kind_octet kind) then id.2 else 0

-- the number that a text names in the store with that mark: 0, which names nothing, where it is no id of this kind
abbrev pub id_number : ℕ → IdKind → List ℕ → ℕ
id_number mark kind text = option_map_or (number_as mark kind) (id_read text) 0

-- ---- updates

abbrev pub if_result : TaskStatus → Option TaskStatus
if_result status = if is_result_status status then Some status else None

-- the status that a worker tells, where it is one that a worker may tell
abbrev pub told_status : Doc → Option TaskStatus
told_status v = option_and_then if_result (option_and_then task_status_named (as_text v))

abbrev pub is_told_status : Doc → Bool
is_told_status v = is_some (told_status v)

-- what an update wants of its body
abbrev pub is_update : Doc → Bool
is_update d =
    is_table d && is_given (has_form AText) (codes "taskId") d && is_given is_told_status (codes "status") d
    && is_absent_or (has_form AText) (codes "workflowInstanceId") d && is_absent_or (has_form AText) (codes "reasonForIncompletion") d
    && is_absent_or (has_form AText) (codes "workerId") d && is_absent_or (has_form ATable) (codes "outputData") d
    && is_absent_or (is_number 0 2147483647) (codes "callbackAfterSeconds") d

-- the flow that an update names: an empty text names none
abbrev pub wanted_flow : ℕ → List ℕ → Option FlowNo
wanted_flow mark text = if length text == 0 then None else Some (record { 0 = id_number mark kind.Flow text })

abbrev pub result_of : TaskStatus → Doc → TaskResult
result_of status d =
    record {
      status = status;
      output = table_in (codes "outputData") d;
      reason = text_in (codes "reasonForIncompletion") d;
      callback = number_or 0 (codes "callbackAfterSeconds") d;
      worker = option_and_then as_text (given (codes "workerId") d);
    }

abbrev pub update_with : ℕ → Doc → Option TaskStatus → Asked
update_with mark d None = Err fault.BadBody
update_with mark d (Some status) =
    Ok
    (Update (wanted_flow mark (text_in (codes "workflowInstanceId") d)) (record { 0 = id_number mark kind.Task (text_in (codes "taskId") d) })
    (result_of status d))

abbrev pub update_of : ℕ → Doc → Asked
update_of mark d =
    then_read (if_formed (is_update d) d) (λ (d : Doc). update_with mark d (option_and_then told_status (given (codes "status") d)))

-- ---- what operators do

-- what a rerun wants of its body
abbrev pub is_rerun : Doc → Bool
is_rerun d =
    is_table d && is_given (has_form AText) (codes "reRunFromTaskId") d && is_absent_or (has_form ATable) (codes "workflowInput") d
    && is_absent_or is_empty_value (codes "taskInput") d

-- the flow keeps its input where the body gives none
abbrev pub rerun_of : ℕ → FlowNo → Doc → Asked
rerun_of mark flow d =
    if_formed (is_rerun d)
    (Operate flow (Rerun (record { 0 = id_number mark kind.Task (text_in (codes "reRunFromTaskId") d) }) (given (codes "workflowInput") d)))

-- what a skip wants of its body
abbrev pub is_skip : Doc → Bool
is_skip d = is_absent_or (has_form ATable) (codes "taskInput") d && is_absent_or (has_form ATable) (codes "taskOutput") d

abbrev pub skip_of : FlowNo → List ℕ → Doc → Asked
skip_of flow reference d =
    if_formed (is_skip d) (Operate flow (Skip reference (table_in (codes "taskInput") d) (table_in (codes "taskOutput") d)))
