-- Which requests are calls, and why others are not: the first refusal that applies, in the order of the steps.
use Rattle.std.specs.Prelude.{ℕ, ◌==◌, ◌&&◌, not, Bool, true, false, if◌then◌else◌, List, [], ◌∷◌, length, codes, Option, None, Some, option_map, option_and_then, slice_get, Result, Ok, Err}
use Rattle.std.specs.List.{before_first, after_first}
use Rattle.std.specs.Option.{option_map_or}
use Rattle.wf_doc.specs.declared.doc.Doc.{Doc}
use Rattle.wf_doc.specs.declared.scan.DocFault.{DocFault}
use Rattle.wf_doc.specs.declared.scan.DocFault.TheVariants as document
use Rattle.wf_doc.specs.Doc.{as_table}
use Rattle.wf_doc.specs.Read.{read}
use Rattle.wf_names.specs.declared.ids.FlowNo.{FlowNo}
use Rattle.wf_names.specs.declared.ids.IdKind.TheVariants as kind
use Rattle.wf_wire.specs.Fields.{same_word}
use Rattle.wf_wire.specs.Request.{Request, values_of}
use Rattle.wf_wire.specs.declared.limits.Limits.{Limits}
use Rattle.wf_steps.specs.declared.calling.Call.TheVariants as call
use Rattle.wf_steps.specs.declared.operation.Operation.{Operation}
use Rattle.wf_steps.specs.declared.operation.Operation.TheVariants as operation
use Rattle.wf_machine.specs.State.{empty_table}
use Rattle.wf_machine.specs.Text.{same_text}
use Rattle.wf_routes.specs.declared.faults.Unrouted.{Unrouted}
use Rattle.wf_routes.specs.declared.faults.Unrouted.TheVariants as unrouted
use Rattle.wf_routes.specs.declared.table.Path.{Path}
use Rattle.wf_routes.specs.declared.table.Route.{Route}
use Rattle.wf_routes.specs.declared.table.Route.TheVariants as route
use Rattle.wf_routes.specs.Table.{path_row}
use Rattle.wf_routes.specs.Paths.{path_of, segments}
use Rattle.wf_routes.specs.Asked.{asked, allow_text}
use Rattle.wf_routes.specs.Target.{is_question, parameter_text}
use Rattle.wf_routes.specs.Queries.{QueryPair, query_pairs, query_value}
use Rattle.wf_rest.specs.Numbers.{number_in}
use Rattle.wf_rest.specs.declared.faulting.HttpFault.{HttpFault}
use Rattle.wf_rest.specs.declared.faulting.HttpFault.TheVariants as fault
use Rattle.wf_rest.specs.Bodies.{Asked, then_read, items_of_body, task_defs_of, task_def_of, flow_def_of, flow_defs_of, start_of, update_of, rerun_of, skip_of, id_number}
use Rattle.wf_rest.specs.Moments.{has_bad_moment}

-- ---- fields

abbrev pub is_other_coding : List (List ℕ) → Bool
is_other_coding [] = false
is_other_coding (coding ∷ []) = not (same_word coding (codes "identity"))
is_other_coding codings = true

-- the body is encoded: a Content-Encoding other than `identity`, or several
abbrev pub is_encoded : Request → Bool
is_encoded m = is_other_coding (values_of (codes "content-encoding") m)

-- ---- targets

abbrev pub path_part : List ℕ → List ℕ
path_part target = before_first is_question target

abbrev pub query_part : List ℕ → List ℕ
query_part target = after_first is_question target

-- the parameter that stands in the n-th segment of the path
abbrev pub parameter : ℕ → List ℕ → Result (List ℕ) HttpFault
parameter n path = option_map_or Ok (option_and_then parameter_text (slice_get (segments path) n)) (Err fault.BadPath)

abbrev pub version_of : List ℕ → Option ℕ
version_of text = number_in 1 2147483647 text

abbrev pub version_parameter : ℕ → List ℕ → Result ℕ HttpFault
version_parameter n path = then_read (parameter n path) (λ text. option_map_or Ok (version_of text) (Err fault.BadPath))

-- what a value of the query says
abbrev pub in_query : {T : Type 0} → Option T → Result T HttpFault
in_query o = option_map_or Ok o (Err fault.BadQuery)

-- what the query says under a key, or what stands for an absent key
abbrev pub query_or : {T : Type 0} → T → (List ℕ → Option T) → List ℕ → List QueryPair → Result T HttpFault
query_or otherwise says key query = option_map_or (λ text. in_query (says text)) (query_value key query) (Ok otherwise)

abbrev pub version_query : List QueryPair → Result (Option ℕ) HttpFault
version_query query = query_or None (λ text. option_map Some (version_of text)) (codes "version") query

abbrev pub text_query : List ℕ → List QueryPair → Result (List ℕ) HttpFault
text_query key query = query_or [] Some key query

abbrev pub truth_of : List ℕ → Option Bool
truth_of text = if same_text text (codes "true") then Some true else if same_text text (codes "false") then Some false else None

abbrev pub tasks_query : List QueryPair → Result Bool HttpFault
tasks_query query = query_or true truth_of (codes "includeTasks") query

-- it is absent, or `false`
abbrev pub false_of : List ℕ → Option Bool
false_of text = if same_text text (codes "false") then Some false else None

abbrev pub false_query : List ℕ → List QueryPair → Result Bool HttpFault
false_query key query = query_or false false_of key query

-- a domain is absent or empty
abbrev pub domain_of : List ℕ → Option (List ℕ)
domain_of text = if length text == 0 then Some [] else None

abbrev pub domain_query : List QueryPair → Result (List ℕ) HttpFault
domain_query query = query_or [] domain_of (codes "domain") query

-- ---- bodies

abbrev pub document_fault : DocFault → HttpFault
document_fault document.Syntax = fault.Syntax
document_fault document.Fraction = fault.Fraction
document_fault document.Range = fault.Range
document_fault document.TooDeep = fault.TooDeep
document_fault document.NoMemory = fault.NoMemory

abbrev pub as_read : Result Doc DocFault → Result Doc HttpFault
as_read (Ok d) = Ok d
as_read (Err broken) = Err (document_fault broken)

-- the document that a body is
abbrev pub document_of : Limits → List ℕ → Result Doc HttpFault
document_of limits body = as_read (read body limits.depth)

abbrev pub table_of : Doc → Result Doc HttpFault
table_of d = option_map_or (λ entries. Ok d) (as_table d) (Err fault.BadBody)

-- the input that a body is: an empty body is the empty table
abbrev pub input_of : Limits → List ℕ → Result Doc HttpFault
input_of limits body = if length body == 0 then Ok empty_table else then_read (document_of limits body) table_of

-- ---- routes

abbrev pub put_task_defs : Limits → List ℕ → Asked
put_task_defs limits body = then_read (document_of limits body) (λ d. then_read (items_of_body d) task_defs_of)

abbrev pub put_flow_defs : Limits → List ℕ → Asked
put_flow_defs limits body = then_read (document_of limits body) (λ d. then_read (items_of_body d) (flow_defs_of limits.nodes))

abbrev pub flow_def_named : List ℕ → List QueryPair → Asked
flow_def_named path query =
    then_read (parameter 4 path) (λ name. then_read (version_query query) (λ version. Ok (call.FlowDefNamed name version)))

abbrev pub drop_flow_def : List ℕ → Asked
drop_flow_def path =
    then_read (parameter 4 path) (λ name. then_read (version_parameter 5 path) (λ version. Ok (call.DropFlowDef name version)))

abbrev pub start_named : Limits → List ℕ → List QueryPair → List ℕ → Asked
start_named limits path query body =
    then_read (parameter 3 path) (λ name.
    then_read (version_query query) (λ version.
    then_read (text_query (codes "correlationId") query) (λ correlation.
    then_read (input_of limits body) (λ input. Ok (call.Start name version input correlation)))))

abbrev pub get_flow : ℕ → List ℕ → List QueryPair → Asked
get_flow mark path query =
    then_read (parameter 3 path) (λ text.
    then_read (tasks_query query) (λ tasks. Ok (call.GetFlow (record { 0 = id_number mark kind.Flow text }) tasks)))

abbrev pub running : List ℕ → List QueryPair → Asked
running path query =
    then_read (parameter 4 path) (λ name. then_read (version_query query) (λ version. Ok (call.Running name version)))

abbrev pub poll : List ℕ → List QueryPair → Asked
poll path query =
    then_read (parameter 4 path) (λ name.
    then_read (text_query (codes "workerid") query) (λ worker.
    then_read (domain_query query) (λ domain. Ok (call.Poll name worker))))

abbrev pub get_task : ℕ → List ℕ → Asked
get_task mark path = then_read (parameter 3 path) (λ text. Ok (call.GetTask (record { 0 = id_number mark kind.Task text })))

abbrev pub decide : ℕ → List ℕ → Asked
decide mark path = then_read (parameter 4 path) (λ text. Ok (call.Decide (record { 0 = id_number mark kind.Flow text })))

-- the flow that a text names
abbrev pub flow_named : ℕ → List ℕ → FlowNo
flow_named mark text = record { 0 = id_number mark kind.Flow text }

-- the flow that the path names
abbrev pub flow_at : ℕ → List ℕ → Result FlowNo HttpFault
flow_at mark path = then_read (parameter 3 path) (λ text. Ok (flow_named mark text))

-- what an operator does to it
abbrev pub operate : ℕ → List ℕ → Operation → Asked
operate mark path asked = then_read (flow_at mark path) (λ flow. Ok (call.Operate flow asked))

-- the same where the query may say `false` under that key, and nothing else
abbrev pub operate_unless : List ℕ → ℕ → List ℕ → List QueryPair → Operation → Asked
operate_unless key mark path query asked =
    then_read (flow_at mark path) (λ flow. then_read (false_query key query) (λ wanted. Ok (call.Operate flow asked)))

abbrev pub terminate : ℕ → List ℕ → List QueryPair → Asked
terminate mark path query =
    then_read (flow_at mark path) (λ flow.
    then_read (text_query (codes "reason") query) (λ reason. Ok (call.Operate flow (operation.Terminate reason))))

abbrev pub remove : ℕ → List ℕ → Asked
remove mark path = then_read (flow_at mark path) (λ flow. Ok (call.Remove flow))

abbrev pub rerun : Limits → ℕ → List ℕ → List ℕ → Asked
rerun limits mark path body =
    then_read (flow_at mark path) (λ flow. then_read (document_of limits body) (rerun_of mark flow))

abbrev pub skip : Limits → ℕ → List ℕ → List ℕ → Asked
skip limits mark path body =
    then_read (flow_at mark path) (λ flow.
    then_read (parameter 5 path) (λ reference. then_read (input_of limits body) (skip_of flow reference)))

-- the call of a request with that route. What isn't built says so before it is read further
unfoldable pub by_route : Limits → ℕ → List ℕ → List QueryPair → List ℕ → Route → Asked
by_route limits mark path query body route.PutTaskDefs = put_task_defs limits body
by_route limits mark path query body route.UpdateTaskDef = then_read (document_of limits body) task_def_of
by_route limits mark path query body route.TaskDefs = Ok call.TaskDefs
by_route limits mark path query body route.TaskDefNamed = then_read (parameter 4 path) (λ name. Ok (call.TaskDefNamed name))
by_route limits mark path query body route.DropTaskDef = then_read (parameter 4 path) (λ name. Ok (call.DropTaskDef name))
by_route limits mark path query body route.AddFlowDef = then_read (document_of limits body) (flow_def_of limits.nodes)
by_route limits mark path query body route.PutFlowDefs = put_flow_defs limits body
by_route limits mark path query body route.FlowDefs = Ok call.FlowDefs
by_route limits mark path query body route.FlowDefNamed = flow_def_named path query
by_route limits mark path query body route.DropFlowDef = drop_flow_def path
by_route limits mark path query body route.Start = then_read (document_of limits body) start_of
by_route limits mark path query body route.StartNamed = start_named limits path query body
by_route limits mark path query body route.GetFlow = get_flow mark path query
by_route limits mark path query body route.Running = running path query
by_route limits mark path query body route.Poll = poll path query
by_route limits mark path query body route.GetTask = get_task mark path
by_route limits mark path query body route.Update = then_read (document_of limits body) (update_of mark)
by_route limits mark path query body route.Decide = decide mark path
by_route limits mark path query body route.Sweep = Ok call.Sweep
by_route limits mark path query body route.Terminate = terminate mark path query
by_route limits mark path query body route.Remove = remove mark path
by_route limits mark path query body route.Pause = operate mark path operation.Pause
by_route limits mark path query body route.Resume = operate mark path operation.Resume
by_route limits mark path query body route.Restart = operate_unless (codes "useLatestDefinitions") mark path query operation.Restart
by_route limits mark path query body route.Retry = operate_unless (codes "resumeSubworkflowTasks") mark path query operation.Retry
by_route limits mark path query body route.Rerun = rerun limits mark path body
by_route limits mark path query body route.Skip = skip limits mark path body
by_route limits mark path query body route.Shutdown = Ok call.Shutdown
by_route limits mark path query body route.PollBatch = Err fault.NotBuilt

-- the methods that a path has
abbrev pub allowed : Option Path → List ℕ
allowed path = option_map_or (λ (path : Path). allow_text (path_row path).calls) path []

abbrev pub unrouted_fault : List ℕ → Unrouted → HttpFault
unrouted_fault path unrouted.NoRoute = fault.NoRoute
unrouted_fault path unrouted.BadMethod = fault.BadMethod (allowed (path_of path))

abbrev pub as_routed : List ℕ → Result Route Unrouted → Result Route HttpFault
as_routed path (Ok r) = Ok r
as_routed path (Err none) = Err (unrouted_fault path none)

-- the route of a request with that path and that method
abbrev pub route_of : List ℕ → List ℕ → Result Route HttpFault
route_of path method = as_routed path (asked (path_of path) method)

-- the call that a request is in a store with that mark, or why it is none
unfoldable pub request_call : Limits → ℕ → Request → Asked
request_call limits mark m =
    if is_encoded m then Err fault.ContentEncoding
    else then_read (route_of (path_part m.target) m.method)
    (by_route limits mark (path_part m.target) (query_pairs (query_part m.target)) m.body)

-- the same where moments are stated: a bad one is told before all but a Content-Encoding
abbrev pub timed_call : Limits → ℕ → Request → Asked
timed_call limits mark m = if has_bad_moment m && not (is_encoded m) then Err fault.BadMoment else request_call limits mark m
