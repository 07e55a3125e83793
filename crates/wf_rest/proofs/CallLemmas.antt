-- The calls of requests are proper.
use Rattle.std.proofs.Common.{◌≡◌, ℕ, Bool, true, false, ◌≤◌, Option, Some, None, List, refl, subst, arith, Result, Ok, Err, nat_le}
use Rattle.std.specs.Prelude.{codes, if◌then◌else◌, option_and_then, unwrap_or}
use Rattle.std.proofs.lemmas.Bool.{leb-true}
use Rattle.wf_doc.specs.declared.doc.Doc.{Doc}
use Rattle.wf_wire.specs.Request.{Request}
use Rattle.wf_wire.specs.declared.limits.Limits.{Limits}
use Rattle.wf_steps.specs.declared.calling.Call.{Call}
use Rattle.wf_steps.specs.Calls.{IsProper}
use Rattle.wf_fields.specs.Fields.{given, as_whole, as_count, count}
use Rattle.wf_names.specs.TaskStatus.{task_status_named}
use Rattle.wf_doc.specs.Doc.{as_text}
use Rattle.wf_names.specs.declared.ids.FlowNo.{FlowNo}
use Rattle.wf_names.specs.declared.statuses.TaskStatus.{TaskStatus}
use Rattle.wf_names.specs.declared.statuses.TaskStatus.TheVariants.{Scheduled, InProgress, Completed, CompletedWithErrors, Skipped, Failed, FailedWithTerminalError, TimedOut, Canceled}
use Rattle.wf_steps.specs.declared.calling.Call.TheVariants as call
use Rattle.wf_defs.specs.declared.faults.DefFault.{DefFault}
use Rattle.wf_routes.specs.declared.table.Route.{Route}
use Rattle.wf_routes.specs.declared.table.Route.TheVariants as route
use Rattle.wf_routes.specs.Queries.{QueryPair}
use Rattle.wf_rest.specs.declared.faulting.HttpFault.{HttpFault}
use Rattle.wf_rest.specs.Bodies as body
use Rattle.wf_rest.specs.Bodies.{Asked, then_read}
use Rattle.wf_rest.specs.Requests as spec

-- no call, or a proper one
abbrev Fits : Asked → Type 0
Fits (Err fault) = Unit {0}
Fits (Ok call) = IsProper call

then_fits : {T : Type 0} (r : Result T HttpFault) (f : T → Asked) → ((v : T) → Fits (f v)) → Fits (then_read r f)
then_fits (Err fault) f h = tt {0}
then_fits (Ok v) f h = h v

either_fits : (b : Bool) (x y : Asked) → Fits x → Fits y → Fits (if b then x else y)
either_fits true x y f g = f
either_fits false x y f g = g

formed_fits : (b : Bool) (c : Call) → IsProper c → Fits (body.if_formed b c)
formed_fits true c proper = proper
formed_fits false c proper = tt {0}

unbroken_fits : (o : Option DefFault) (c : Call) → IsProper c → Fits (body.unless_broken o c)
unbroken_fits None c proper = proper
unbroken_fits (Some broken) c proper = tt {0}

-- ---- the delay of an update

bounded : (b : Bool) (n : ℕ) → (b ≡ true → n ≤ 2147483647) → unwrap_or (if b then Some n else None) 0 ≤ 2147483647
bounded true n fits = fits refl
bounded false n fits = omega arith

whole_bounded : (o : Option ℕ) → unwrap_or (option_and_then count o) 0 ≤ 2147483647
whole_bounded None = omega arith
whole_bounded (Some n) = bounded (nat_le n 2147483647) n (leb-true n 2147483647)

callback_bounded : (o : Option Doc) → unwrap_or (option_and_then as_count o) 0 ≤ 2147483647
callback_bounded None = omega arith
callback_bounded (Some v) = whole_bounded (as_whole v)

-- a status that a worker may tell
told_fits : (mark : ℕ) (d : Doc) (o : Option TaskStatus) → Fits (body.update_with mark d (option_and_then body.if_result o))
told_fits mark d None = tt {0}
told_fits mark d (Some Scheduled) = tt {0}
told_fits mark d (Some InProgress) = (refl, callback_bounded (given (codes "callbackAfterSeconds") d))
told_fits mark d (Some Completed) = (refl, callback_bounded (given (codes "callbackAfterSeconds") d))
told_fits mark d (Some CompletedWithErrors) = tt {0}
told_fits mark d (Some Skipped) = tt {0}
told_fits mark d (Some Failed) = (refl, callback_bounded (given (codes "callbackAfterSeconds") d))
told_fits mark d (Some FailedWithTerminalError) = (refl, callback_bounded (given (codes "callbackAfterSeconds") d))
told_fits mark d (Some TimedOut) = tt {0}
told_fits mark d (Some Canceled) = tt {0}

update_fits : (mark : ℕ) (d : Doc) (o : Option Doc) → Fits (body.update_with mark d (option_and_then body.told_status o))
update_fits mark d None = tt {0}
update_fits mark d (Some v) = told_fits mark d (option_and_then task_status_named (as_text v))

-- ---- routes

module _ (limits : Limits) (mark : ℕ) (path : List ℕ) (query : List QueryPair) (bytes : List ℕ) where
  of_document : (f : Doc → Asked) → ((d : Doc) → Fits (f d)) → Fits (then_read (spec.document_of limits bytes) f)
  of_document f h = then_fits (spec.document_of limits bytes) f h

  of_named : (n : ℕ) (f : List ℕ → Asked) → ((text : List ℕ) → Fits (f text)) → Fits (then_read (spec.parameter n path) f)
  of_named n f h = then_fits (spec.parameter n path) f h

  of_flow : (f : FlowNo → Asked) → ((flow : FlowNo) → Fits (f flow)) → Fits (then_read (spec.flow_at mark path) f)
  of_flow f h = then_fits (spec.flow_at mark path) f h

  start_fits : Fits (spec.start_named limits path query bytes)
  start_fits =
      of_named 3 _ (λ name. then_fits (spec.version_query query) _ (λ version.
      then_fits (spec.text_query (codes "correlationId") query) _ (λ correlation. then_fits (spec.input_of limits bytes) _ (λ input. tt {0}))))

  poll_fits : Fits (spec.poll path query)
  poll_fits =
      of_named 4 _ (λ name. then_fits (spec.text_query (codes "workerid") query) _ (λ worker. then_fits (spec.domain_query query) _ (λ domain. tt {0})))

  route_fits : (r : Route) → Fits (spec.by_route limits mark path query bytes r)
  unfolding spec.by_route
  route_fits route.PutTaskDefs = of_document _ (λ d. then_fits (body.items_of_body d) _ (λ ds. unbroken_fits _ (call.PutTaskDefs _) (tt {0})))
  route_fits route.UpdateTaskDef = of_document _ (λ d. unbroken_fits _ (call.UpdateTaskDef _) (tt {0}))
  route_fits route.TaskDefs = tt {0}
  route_fits route.TaskDefNamed = of_named 4 _ (λ name. tt {0})
  route_fits route.DropTaskDef = of_named 4 _ (λ name. tt {0})
  route_fits route.AddFlowDef = of_document _ (λ d. unbroken_fits _ (call.AddFlowDef _) (tt {0}))
  route_fits route.PutFlowDefs = of_document _ (λ d. then_fits (body.items_of_body d) _ (λ ds. unbroken_fits _ (call.PutFlowDefs _) (tt {0})))
  route_fits route.FlowDefs = tt {0}
  route_fits route.FlowDefNamed = of_named 4 _ (λ name. then_fits (spec.version_query query) _ (λ version. tt {0}))
  route_fits route.DropFlowDef = of_named 4 _ (λ name. then_fits (spec.version_parameter 5 path) _ (λ version. tt {0}))
  route_fits route.Start = of_document _ (λ d. formed_fits (body.is_start d) _ (tt {0}))
  route_fits route.StartNamed = start_fits
  route_fits route.GetFlow = of_named 3 _ (λ text. then_fits (spec.tasks_query query) _ (λ tasks. tt {0}))
  route_fits route.Running = of_named 4 _ (λ name. then_fits (spec.version_query query) _ (λ version. tt {0}))
  route_fits route.Poll = poll_fits
  route_fits route.GetTask = of_named 3 _ (λ text. tt {0})
  route_fits route.Update = of_document _ (λ d. then_fits (body.if_formed (body.is_update d) d) _ (λ (d' : Doc). update_fits mark d' (given (codes "status") d')))
  route_fits route.Terminate = of_flow _ (λ flow. then_fits (spec.text_query (codes "reason") query) _ (λ reason. tt {0}))
  route_fits route.Remove = of_flow _ (λ flow. tt {0})
  route_fits route.Pause = of_flow _ (λ flow. tt {0})
  route_fits route.Resume = of_flow _ (λ flow. tt {0})
  route_fits route.Restart = of_flow _ (λ flow. then_fits (spec.false_query (codes "useLatestDefinitions") query) _ (λ wanted. tt {0}))
  route_fits route.Retry = of_flow _ (λ flow. then_fits (spec.false_query (codes "resumeSubworkflowTasks") query) _ (λ wanted. tt {0}))
  route_fits route.Rerun = of_flow _ (λ flow. of_document _ (λ d. formed_fits (body.is_rerun d) _ (tt {0})))
  route_fits route.Decide = of_named 4 _ (λ text. tt {0})
  route_fits route.Skip =
      of_flow _ (λ flow. of_named 5 _ (λ reference. then_fits (spec.input_of limits bytes) _ (λ d. formed_fits (body.is_skip d) _ (tt {0}))))
  route_fits route.PollBatch = tt {0}
  route_fits route.Sweep = tt {0}
  route_fits route.Shutdown = tt {0}

request_fits : (limits : Limits) (mark : ℕ) (m : Request) → Fits (spec.request_call limits mark m)
unfolding spec.request_call
request_fits limits mark m =
    either_fits (spec.is_encoded m) _ _ (tt {0}) (then_fits (spec.route_of (spec.path_part m.target) m.method) _ (route_fits limits mark _ _ m.body))

-- the call that a request is
pub call_is_proper : (limits : Limits) (mark : ℕ) (m : Request) (c : Call) → spec.request_call limits mark m ≡ Ok c → IsProper c
call_is_proper limits mark m c e = subst Fits e (request_fits limits mark m)
