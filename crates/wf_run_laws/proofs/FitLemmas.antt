-- The workflows that requests register have loops that fit.
use Rattle.std.proofs.Common.{◌≡◌, ℕ, suc, Bool, true, false, List, [], ◌∷◌, map, Option, Some, None, refl, subst, Result, Ok, Err}
use Rattle.std.proofs.lemmas.List.Elements.{All-nil, All-cons, All-head, All-tail}
use Rattle.std.specs.List.{All}
use Rattle.std.specs.Prelude.{codes, if◌then◌else◌, option_and_then, option_map}
use Rattle.std.specs.Option.{option_or}
use Rattle.wf_doc.specs.declared.doc.Doc.{Doc}
use Rattle.wf_wire.specs.Request.{Request}
use Rattle.wf_wire.specs.declared.limits.Limits.{Limits}
use Rattle.wf_machine.specs.State.{new_state}
use Rattle.wf_steps.specs.declared.calling.Entry.{Entry}
use Rattle.wf_steps.specs.History.{state_after}
use Rattle.wf_run_laws.specs.Asking.{IsAsked}
use Rattle.wf_steps.specs.declared.calling.Call.{Call}
use Rattle.wf_steps.specs.declared.calling.Call.TheVariants as call
use Rattle.wf_machine.specs.declared.definition.FlowDef.{FlowDef}
use Rattle.wf_fields.specs.Fields.{given}
use Rattle.wf_names.specs.declared.ids.FlowNo.{FlowNo}
use Rattle.wf_names.specs.declared.statuses.TaskStatus.{TaskStatus}
use Rattle.wf_defs.specs.declared.faults.DefFault.{DefFault}
use Rattle.wf_defs.specs.FlowReading.{flow_definition}
use Rattle.wf_defs.specs.FlowRules.{flow_rule}
use Rattle.wf_defs.specs.Several.{first_fault_in, in_item}
use Rattle.wf_routes.specs.declared.table.Route.{Route}
use Rattle.wf_routes.specs.declared.table.Route.TheVariants as route
use Rattle.wf_routes.specs.Queries.{QueryPair}
use Rattle.wf_rules.specs.Loops.{LoopsFit}
use Rattle.wf_rest.specs.declared.faulting.HttpFault.{HttpFault}
use Rattle.wf_rest.specs.Bodies as body
use Rattle.wf_rest.specs.Bodies.{Asked, then_read}
use Rattle.wf_rest.specs.Requests as spec
use Rattle.wf_laws.specs.Sound.{BringsFitLoops, HasFitLoops}
use Rattle.wf_laws.proofs.HistoryLemmas.{fit_after}
use Rattle.wf_laws.proofs.ValidLemmas.{valid_fits}

-- no call, or one that brings fit loops
abbrev Brings : Asked → Type 0
Brings (Err fault) = Unit {0}
Brings (Ok c) = BringsFitLoops c

then_brings : {T : Type 0} (r : Result T HttpFault) (f : T → Asked) → ((v : T) → Brings (f v)) → Brings (then_read r f)
then_brings (Err fault) f h = tt {0}
then_brings (Ok v) f h = h v

either_brings : (b : Bool) (x y : Asked) → Brings x → Brings y → Brings (if b then x else y)
either_brings true x y f g = f
either_brings false x y f g = g

formed_brings : (b : Bool) (c : Call) → BringsFitLoops c → Brings (body.if_formed b c)
formed_brings true c h = h
formed_brings false c h = tt {0}

unbroken_brings : (o : Option DefFault) (c : Call) → (o ≡ None → BringsFitLoops c) → Brings (body.unless_broken o c)
unbroken_brings None c h = h refl
unbroken_brings (Some broken) c h = tt {0}

updated_brings : (mark : ℕ) (d : Doc) (o : Option TaskStatus) → Brings (body.update_with mark d o)
updated_brings mark d None = tt {0}
updated_brings mark d (Some status) = tt {0}

-- ---- lists of definitions

abbrev HasFit : FlowDef → Type 0
HasFit d = LoopsFit d.nodes

-- where no item has a fault the first one has none, and none behind it
unbroken_items : (n : ℕ) (o : Option DefFault) (later : Option DefFault) → option_or (option_map (in_item n) o) later ≡ None → (o ≡ None) × (later ≡ None)
unbroken_items n None later h = (refl, h)
unbroken_items n (Some broken) later h = cc

all_fit : (most n : ℕ) (ds : List Doc) → first_fault_in (flow_rule most) n ds ≡ None → All HasFit (map (flow_definition most) ds)
all_fit most n [] h = All-nil HasFit
all_fit most n (d ∷ ds) h =
    let both = unbroken_items n (flow_rule most d) (first_fault_in (flow_rule most) (suc n) ds) h in
    All-cons HasFit (flow_definition most d) (map (flow_definition most) ds) (valid_fits most d both.0) (all_fit most (suc n) ds both.1)

-- ---- routes

module _ (limits : Limits) (mark : ℕ) (path : List ℕ) (query : List QueryPair) (bytes : List ℕ) where
  of_document : (f : Doc → Asked) → ((d : Doc) → Brings (f d)) → Brings (then_read (spec.document_of limits bytes) f)
  of_document f h = then_brings (spec.document_of limits bytes) f h

  of_named : (n : ℕ) (f : List ℕ → Asked) → ((text : List ℕ) → Brings (f text)) → Brings (then_read (spec.parameter n path) f)
  of_named n f h = then_brings (spec.parameter n path) f h

  of_flow : (f : FlowNo → Asked) → ((flow : FlowNo) → Brings (f flow)) → Brings (then_read (spec.flow_at mark path) f)
  of_flow f h = then_brings (spec.flow_at mark path) f h

  start_brings : Brings (spec.start_named limits path query bytes)
  start_brings =
      of_named 3 _ (λ name. then_brings (spec.version_query query) _ (λ version.
      then_brings (spec.text_query (codes "correlationId") query) _ (λ correlation. then_brings (spec.input_of limits bytes) _ (λ input. tt {0}))))

  poll_brings : Brings (spec.poll path query)
  poll_brings =
      of_named 4 _ (λ name. then_brings (spec.text_query (codes "workerid") query) _ (λ worker. then_brings (spec.domain_query query) _ (λ domain. tt {0})))

  route_brings : (r : Route) → Brings (spec.by_route limits mark path query bytes r)
  unfolding spec.by_route
  route_brings route.PutTaskDefs = of_document _ (λ d. then_brings (body.items_of_body d) _ (λ ds. unbroken_brings _ (call.PutTaskDefs _) (λ h. tt {0})))
  route_brings route.UpdateTaskDef = of_document _ (λ d. unbroken_brings _ (call.UpdateTaskDef _) (λ h. tt {0}))
  route_brings route.TaskDefs = tt {0}
  route_brings route.TaskDefNamed = of_named 4 _ (λ name. tt {0})
  route_brings route.DropTaskDef = of_named 4 _ (λ name. tt {0})
  route_brings route.AddFlowDef = of_document _ (λ d. unbroken_brings (flow_rule limits.nodes d) (call.AddFlowDef (flow_definition limits.nodes d)) (valid_fits limits.nodes d))
  route_brings route.PutFlowDefs =
      of_document _ (λ d. then_brings (body.items_of_body d) _ (λ ds.
      unbroken_brings (first_fault_in (flow_rule limits.nodes) 0 ds) (call.PutFlowDefs (map (flow_definition limits.nodes) ds)) (all_fit limits.nodes 0 ds)))
  route_brings route.FlowDefs = tt {0}
  route_brings route.FlowDefNamed = of_named 4 _ (λ name. then_brings (spec.version_query query) _ (λ version. tt {0}))
  route_brings route.DropFlowDef = of_named 4 _ (λ name. then_brings (spec.version_parameter 5 path) _ (λ version. tt {0}))
  route_brings route.Start = of_document _ (λ d. formed_brings (body.is_start d) _ (tt {0}))
  route_brings route.StartNamed = start_brings
  route_brings route.GetFlow = of_named 3 _ (λ text. then_brings (spec.tasks_query query) _ (λ tasks. tt {0}))
  route_brings route.Running = of_named 4 _ (λ name. then_brings (spec.version_query query) _ (λ version. tt {0}))
  route_brings route.Poll = poll_brings
  route_brings route.GetTask = of_named 3 _ (λ text. tt {0})
  route_brings route.Update = of_document _ (λ d. then_brings (body.if_formed (body.is_update d) d) _ (λ (d' : Doc). updated_brings mark d' (option_and_then body.told_status (given (codes "status") d'))))
  route_brings route.Terminate = of_flow _ (λ flow. then_brings (spec.text_query (codes "reason") query) _ (λ reason. tt {0}))
  route_brings route.Remove = of_flow _ (λ flow. tt {0})
  route_brings route.Pause = of_flow _ (λ flow. tt {0})
  route_brings route.Resume = of_flow _ (λ flow. tt {0})
  route_brings route.Restart = of_flow _ (λ flow. then_brings (spec.false_query (codes "useLatestDefinitions") query) _ (λ wanted. tt {0}))
  route_brings route.Retry = of_flow _ (λ flow. then_brings (spec.false_query (codes "resumeSubworkflowTasks") query) _ (λ wanted. tt {0}))
  route_brings route.Rerun = of_flow _ (λ flow. of_document _ (λ d. formed_brings (body.is_rerun d) _ (tt {0})))
  route_brings route.Decide = of_named 4 _ (λ text. tt {0})
  route_brings route.Skip =
      of_flow _ (λ flow. of_named 5 _ (λ reference. then_brings (spec.input_of limits bytes) _ (λ d. formed_brings (body.is_skip d) _ (tt {0}))))
  route_brings route.PollBatch = tt {0}
  route_brings route.Sweep = tt {0}
  route_brings route.Shutdown = tt {0}

asked_brings : (limits : Limits) (mark : ℕ) (m : Request) → Brings (spec.request_call limits mark m)
unfolding spec.request_call
asked_brings limits mark m =
    either_brings (spec.is_encoded m) _ _ (tt {0}) (then_brings (spec.route_of (spec.path_part m.target) m.method) _ (route_brings limits mark _ _ m.body))

-- the call that a request is
pub request_brings : (limits : Limits) (mark : ℕ) (m : Request) (c : Call) → spec.request_call limits mark m ≡ Ok c → BringsFitLoops c
request_brings limits mark m c e = subst Brings e (asked_brings limits mark m)

-- ---- histories

abbrev AsksAt : Limits → ℕ → Entry → Type 0
AsksAt limits mark x = IsAsked limits mark x.call

abbrev BringsAt : Entry → Type 0
BringsAt x = BringsFitLoops x.call

all_bring : (limits : Limits) (mark : ℕ) (history : List Entry) → All (AsksAt limits mark) history → All BringsAt history
all_bring limits mark [] asked = All-nil BringsAt
all_bring limits mark (x ∷ rest) asked =
    let first = All-head (AsksAt limits mark) x rest asked in
    All-cons BringsAt x rest (request_brings limits mark first.request x.call first.is) (all_bring limits mark rest (All-tail (AsksAt limits mark) x rest asked))

pub requests_fit : (limits : Limits) (mark : ℕ) (history : List Entry) → All (λ (x : Entry). IsAsked limits mark x.call) history
    → HasFitLoops (state_after limits (new_state mark) history)
requests_fit limits mark history asked =
    fit_after limits 0 (new_state mark) history (record { registered = All-nil (λ (d : FlowDef). LoopsFit d.nodes); kept = All-nil _ }) (all_bring limits mark history asked)
