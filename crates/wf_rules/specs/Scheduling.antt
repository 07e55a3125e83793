-- How a node is scheduled, by its kind.
use Rattle.std.specs.Prelude.{ℕ, nat_le, if◌then◌else◌, List, [], ◌∷◌, ◌++◌, length, codes, Option, None, Some}
use Rattle.std.specs.List.{list_any}
use Rattle.std.specs.Option.{option_map_or}
use Rattle.wf_doc.specs.declared.doc.Doc.{Doc}
use Rattle.wf_doc.specs.declared.doc.Doc.TheOpen.{Doc-F}
use Rattle.wf_doc.specs.declared.doc.Doc.TheViews.{out-Doc}
use Rattle.wf_doc.specs.Doc.{as_table, as_text, field}
use Rattle.wf_expr.specs.Filling.{text_of_any}
use Rattle.wf_names.specs.declared.statuses.FlowStatus.{FlowStatus}
use Rattle.wf_names.specs.declared.statuses.FlowStatus.TheVariants as flow
use Rattle.wf_wire.specs.declared.limits.Limits.{Limits}
use Rattle.wf_rules.specs.declared.acting.Act.{Act}
use Rattle.wf_rules.specs.declared.acting.Act.TheVariants.{Add, Variables, End}
use Rattle.wf_rules.specs.declared.acting.Begin.{Begin}
use Rattle.wf_rules.specs.declared.acting.Begin.TheVariants.{Queued, Held, Over}
use Rattle.wf_rules.specs.declared.acting.Child.TheVariants.{Nothing, Flow as NewFlow, TooLarge, Refused}
use Rattle.wf_rules.specs.declared.acting.NewAttempt.{NewAttempt}
use Rattle.wf_rules.specs.declared.acting.Outcome.TheVariants.{Completed, FailedWithTerminalError}
use Rattle.wf_machine.specs.declared.definition.Cases.{Cases'}
use Rattle.wf_machine.specs.declared.definition.Count.{Count}
use Rattle.wf_machine.specs.declared.definition.FlowDef.{FlowDef}
use Rattle.wf_machine.specs.declared.definition.Node.{Node}
use Rattle.wf_machine.specs.declared.definition.NodeKind.{NodeKind, Simple, Switch, Fork', Join, Loop', SubFlow, SetVariable, Wait, Human, Terminate}
use Rattle.wf_machine.specs.declared.definition.TaskDef.{TaskDef}
use Rattle.wf_machine.specs.State.{empty_table}
use Rattle.wf_machine.specs.Text.{same_text}
use Rattle.wf_rules.specs.Sight.{Sight, Scene}
use Rattle.wf_time.specs.Durations.{duration}
use Rattle.wf_machine.specs.Naming.{with_template}
use Rattle.wf_machine.specs.Registered.{task_def_named, flow_def_for}
use Rattle.wf_rules.specs.Outputs.{filled_in, is_too_large, entries_of, with_all, choice_output, count_of, loop_output}

-- ---- limits

-- the flow fails for that reason
abbrev pub fails : List ℕ → Option Doc → List Act
fails reason output = End flow.Failed (Some reason) output ∷ []

-- a rule that makes these documents does this, or the flow fails where one of them is too large
abbrev pub within : Limits → List Doc → List Act → List Act
within limits docs acts = if list_any (is_too_large limits) docs then fails (codes "document limit") (Some empty_table) else acts

-- a rule that adds this attempt and makes these documents besides, by what it does before and after that
abbrev pub adding : Limits → Sight → List Doc → List Act → NewAttempt → List Act → List Act
adding limits s docs before n after =
    if nat_le limits.attempts (length s.attempts) then fails (codes "attempt limit") None
    else within limits (n.input ∷ n.output ∷ docs) (before ++ Add n ∷ after)

abbrev pub adding_one : Limits → Sight → NewAttempt → List Act
adding_one limits s n = adding limits s [] [] n []

-- ---- new attempts

-- an attempt at a node in an iteration
abbrev pub attempt_at : Node → ℕ → Begin → Doc → NewAttempt
attempt_at node i begin input =
    record {
      node = node.index;
      iteration = i;
      begin = begin;
      input = input;
      output = empty_table;
      reason = [];
      retry = 0;
      retried = None;
      turn = 0;
      child = Nothing;
    }

-- one that has failed for good as it is made
abbrev pub failed_at : Node → ℕ → List ℕ → Doc → NewAttempt
failed_at node i reason input = record (attempt_at node i (Over FailedWithTerminalError) input) { reason = reason }

-- a task: with the timing of its registered definition, and the keys of that one's template
abbrev pub task_at : Node → ℕ → TaskDef → Doc → NewAttempt
task_at node i def input = attempt_at node i (Queued def.timing node.start_delay) (with_template def.template input)

-- a DO_WHILE begins in turn 1
abbrev pub loop_at : Node → ℕ → Doc → NewAttempt
loop_at node i input = record (attempt_at node i (Held None) input) { output = loop_output; turn = 1 }

abbrev pub counted_at : Node → ℕ → Count → Doc → NewAttempt
counted_at node i count input = option_map_or (λ n. loop_at node i input) (count_of count input) (failed_at node i (codes "bad loop count") input)

-- a WAIT: without a duration, or with an empty one, it waits to be updated
abbrev pub wait_here : Node → ℕ → Doc → Doc-F Doc → NewAttempt
wait_here node i input Doc-F.Null = attempt_at node i (Held None) input
wait_here node i input (Doc-F.Text []) = attempt_at node i (Held None) input
wait_here node i input (Doc-F.Text text) =
    option_map_or (λ seconds. attempt_at node i (Held (Some seconds)) input) (duration text) (failed_at node i (codes "bad duration") input)
wait_here node i input d = failed_at node i (codes "bad duration") input

abbrev pub wait_at : Node → ℕ → Doc → NewAttempt
wait_at node i input =
    option_map_or (λ d. wait_here node i input (out-Doc d)) (field (codes "duration") input) (attempt_at node i (Held None) input)

-- a SUB_WORKFLOW that starts none
abbrev pub refused_at : Node → ℕ → List ℕ → Doc → NewAttempt
refused_at node i reason input = record (failed_at node i reason input) { child = Refused }

-- one that starts a flow of that definition; whether the store has room for it is not known yet
abbrev pub child_at : Limits → Node → ℕ → FlowDef → Doc → NewAttempt
child_at limits node i def input =
    if is_too_large limits (with_template def.template input)
    then record (failed_at node i (codes "document limit") input) { child = TooLarge }
    else record (attempt_at node i (Held None) input) { child = NewFlow def (with_template def.template input) }

abbrev pub sub_flow_at : Limits → Sight → Node → ℕ → List ℕ → Option FlowDef → Doc → NewAttempt
sub_flow_at limits s node i name None input = refused_at node i (codes "no workflow definition " ++ name) input
sub_flow_at limits s node i name (Some def) input =
    if nat_le limits.nesting s.depth then refused_at node i (codes "sub-workflow depth") input
    else child_at limits node i def input

-- ---- nodes that do more than to add an attempt

-- each key of the input is set as a variable
abbrev pub set_variables : Limits → Sight → Node → ℕ → Doc → List Act
set_variables limits s node i input =
    let variables = with_all (entries_of input) s.variables in
    adding limits s (variables ∷ []) (Variables variables ∷ []) (attempt_at node i (Over Completed) input) []

-- the status that a text ends a flow with
abbrev pub end_named : List ℕ → Option FlowStatus
end_named text =
    if same_text text (codes "COMPLETED") then Some flow.Completed
    else if same_text text (codes "FAILED") then Some flow.Failed
    else if same_text text (codes "TERMINATED") then Some flow.Terminated
    else None

abbrev pub named_end : Doc → Option FlowStatus
named_end input = option_map_or (λ d. option_map_or end_named (as_text d) None) (field (codes "terminationStatus") input) None

-- the table behind that key, or an empty one
abbrev pub table_at : List ℕ → Doc → Doc
table_at key input = option_map_or (λ d. option_map_or (λ es. d) (as_table d) empty_table) (field key input) empty_table

-- the flow ends as the node says
abbrev pub end_by : Doc → Option FlowStatus → List Act
end_by input None = fails (codes "bad terminationStatus") None
end_by input (Some status) =
    End status (Some (text_of_any (field (codes "terminationReason") input))) (Some (table_at (codes "workflowOutput") input)) ∷ []

-- the output of the flow is a part of the node's input, so it is never too large by itself
abbrev pub terminate : Limits → Sight → Node → ℕ → Doc → List Act
terminate limits s node i input = adding limits s [] [] (attempt_at node i (Over Completed) input) (end_by input (named_end input))

-- ---- all kinds

-- without a registered task the flow ends
abbrev pub schedule_task : Limits → Sight → Node → ℕ → Option TaskDef → Doc → List Act
schedule_task limits s node i None input = fails (codes "no task definition " ++ node.name) None
schedule_task limits s node i (Some def) input = adding_one limits s (task_at node i def input)

-- with that filled input
abbrev pub schedule_kind : Limits → Scene → Sight → Node → ℕ → NodeKind → Doc → List Act
schedule_kind limits scene s node i Simple input = schedule_task limits s node i (task_def_named node.name scene.task_defs) input
schedule_kind limits scene s node i (Switch (Cases' param n cases m nodes)) input =
    adding_one limits s (record (attempt_at node i (Over Completed) input) { output = choice_output (text_of_any (field param input)) })
schedule_kind limits scene s node i (Fork' n branches) input = adding_one limits s (attempt_at node i (Over Completed) input)
schedule_kind limits scene s node i (Join references) input = adding_one limits s (attempt_at node i (Held None) input)
schedule_kind limits scene s node i (Loop' count n body) input = adding_one limits s (counted_at node i count input)
schedule_kind limits scene s node i (SubFlow name version) input =
    adding_one limits s (sub_flow_at limits s node i name (flow_def_for name version scene.flow_defs) input)
schedule_kind limits scene s node i SetVariable input = set_variables limits s node i input
schedule_kind limits scene s node i Wait input = adding_one limits s (wait_at node i input)
schedule_kind limits scene s node i Human input = adding_one limits s (attempt_at node i (Held None) input)
schedule_kind limits scene s node i Terminate input = terminate limits s node i input

-- a node is scheduled in an iteration
abbrev pub schedule : Limits → Scene → Sight → Node → ℕ → List Act
schedule limits scene s node i = schedule_kind limits scene s node i node.kind (filled_in scene s node.input)
