-- What acts make of a flow: here alone numbers and moments come in.
use Rattle.std.specs.Prelude.{ℕ, zero, suc, ◌+◌, ◌*◌, true, List, [], ◌∷◌, ◌++◌, Option, None, Some, option_and_then}
use Rattle.wf_doc.specs.declared.doc.Doc.{Doc}
use Rattle.wf_names.specs.declared.ids.FlowNo.{FlowNo}
use Rattle.wf_names.specs.declared.ids.TaskNo.{TaskNo}
use Rattle.wf_names.specs.declared.statuses.TaskStatus.{TaskStatus}
use Rattle.wf_names.specs.declared.statuses.TaskStatus.TheVariants as task
use Rattle.wf_rules.specs.declared.acting.Act.{Act}
use Rattle.wf_rules.specs.declared.acting.Act.TheVariants.{Add, Close, Note, Forgive, Turn as TurnOn, Variables, NoteFlow, End}
use Rattle.wf_rules.specs.declared.acting.Alert.{Alert}
use Rattle.wf_rules.specs.declared.acting.Alert.TheVariants.{Poll as PollAlert, Total as TotalAlert}
use Rattle.wf_rules.specs.declared.acting.Begin.{Begin}
use Rattle.wf_rules.specs.declared.acting.Begin.TheVariants.{Queued, Held, Over}
use Rattle.wf_rules.specs.declared.acting.Child.{Child}
use Rattle.wf_rules.specs.declared.acting.Child.TheVariants.{Flow as NewFlow}
use Rattle.wf_rules.specs.declared.acting.NewAttempt.{NewAttempt}
use Rattle.wf_rules.specs.declared.acting.Outcome.{Outcome}
use Rattle.wf_rules.specs.declared.acting.Outcome.TheVariants.{Completed, Failed, FailedWithTerminalError, TimedOut}
use Rattle.wf_machine.specs.declared.definition.FlowDef.{FlowDef}
use Rattle.wf_machine.specs.declared.timed.Timing.{Timing}
use Rattle.wf_machine.specs.State.{Attempt, Flow, new_attempt, new_flow, flow_ended}

-- a flow that is decided, the flows that it started so far, and both next numbers
pub record Turn : Type 0 where
  pub flow : Flow
  pub children : List Flow
  pub next_flow : ℕ
  pub next_task : ℕ

abbrev pub or_as_it_was : {T : Type 0} → T → Option T → T
or_as_it_was old None = old
or_as_it_was old (Some new) = new

-- the item at that place is changed
abbrev pub at_place : {T : Type 0} → ℕ → (T → T) → List T → List T
at_place p change [] = []
at_place zero change (a ∷ rest) = change a ∷ rest
at_place (suc p) change (a ∷ rest) = a ∷ at_place p change rest

-- ---- a new attempt

abbrev pub status_of : Outcome → TaskStatus
status_of Completed = task.Completed
status_of Failed = task.Failed
status_of FailedWithTerminalError = task.FailedWithTerminalError
status_of TimedOut = task.TimedOut

abbrev pub first_status : Begin → TaskStatus
first_status (Queued timing delay) = task.Scheduled
first_status (Held delay) = task.InProgress
first_status (Over outcome) = status_of outcome

abbrev pub first_timing : Begin → Option Timing
first_timing (Queued timing delay) = Some timing
first_timing _ = None

abbrev pub first_ready : ℕ → Begin → ℕ
first_ready e (Queued timing delay) = e + 1000 * delay
first_ready e _ = e

-- an attempt that workers don't poll counts as polled when it is made
abbrev pub first_poll : ℕ → Begin → Option ℕ
first_poll e (Queued timing delay) = None
first_poll e _ = Some e

abbrev pub first_wait : ℕ → Begin → Option ℕ
first_wait e (Held (Some delay)) = Some (e + 1000 * delay)
first_wait e _ = None

abbrev pub number_at : ℕ → List Attempt → Option TaskNo
number_at p [] = None
number_at zero (a ∷ rest) = Some a.number
number_at (suc p) (a ∷ rest) = number_at p rest

-- the number of the flow that it starts
abbrev pub child_number : ℕ → Child → Option FlowNo
child_number number (NewFlow def input) = Some (record { 0 = number })
child_number number _ = None

-- the attempt that is made at the moment e
abbrev pub begun : ℕ → NewAttempt → TaskNo → Option TaskNo → Option FlowNo → Attempt
begun e n number retried child =
    record (new_attempt number n.node n.iteration (first_status n.begin) n.input e) {
      output = n.output;
      reason = n.reason;
      retry = n.retry;
      retried = retried;
      ready = first_ready e n.begin;
      first_poll = first_poll e n.begin;
      timing = first_timing n.begin;
      wait = first_wait e n.begin;
      child = child;
      turn = n.turn;
    }

abbrev pub added : ℕ → NewAttempt → Turn → Attempt
added e n t =
    begun e n (record { 0 = t.next_task }) (option_and_then (λ p. number_at p t.flow.attempts) n.retried) (child_number t.next_flow n.child)

-- the flow that it starts: one level deeper, with the same correlation
abbrev pub child_started : ℕ → FlowDef → Doc → Turn → Flow
child_started e def input t =
    new_flow (record { 0 = t.next_flow }) def input t.flow.correlation (Some (t.flow.number, record { 0 = t.next_task })) (t.flow.depth + 1) e

abbrev pub started : ℕ → Turn → Child → List Flow
started e t (NewFlow def input) = child_started e def input t ∷ []
started e t _ = []

abbrev pub births : Child → ℕ
births (NewFlow def input) = 1
births _ = 0

-- ---- changed attempts

abbrev pub closed : ℕ → Outcome → Option (List ℕ) → Option Doc → Attempt → Attempt
closed e outcome reason output a =
    record a {
      status = status_of outcome;
      reason = or_as_it_was a.reason reason;
      output = or_as_it_was a.output output;
      updated = e;
      ended = Some e;
    }

abbrev pub noted : ℕ → Alert → List ℕ → Attempt → Attempt
noted e PollAlert reason a = record a { poll_noted = true; reason = reason; updated = e }
noted e TotalAlert reason a = record a { total_noted = true; reason = reason; updated = e }

-- its end, reason and output stay as they are
abbrev pub forgiven : ℕ → Attempt → Attempt
forgiven e a = record a { status = task.CompletedWithErrors; updated = e }

abbrev pub turned : ℕ → Doc → ℕ → Attempt → Attempt
turned e output turn a = record a { output = output; turn = turn; updated = e }

-- ---- acts

abbrev pub with_change : ℕ → (Attempt → Attempt) → Turn → Turn
with_change p change t = record t { flow = record t.flow { attempts = at_place p change t.flow.attempts } }

abbrev pub make : ℕ → Act → Turn → Turn
make e (Add n) t =
    record {
      flow = record t.flow { attempts = t.flow.attempts ++ added e n t ∷ [] };
      children = t.children ++ started e t n.child;
      next_flow = t.next_flow + births n.child;
      next_task = t.next_task + 1;
    }
make e (Close p outcome reason output) t = with_change p (closed e outcome reason output) t
make e (Note p alert reason) t = with_change p (noted e alert reason) t
make e (Forgive p) t = with_change p (forgiven e) t
make e (TurnOn p output turn) t = with_change p (turned e output turn) t
make e (Variables variables) t = record t { flow = record t.flow { variables = variables } }
make e (NoteFlow reason) t = record t { flow = record t.flow { noted = true; reason = reason } }
make e (End status reason output) t =
    record t {
      flow = flow_ended status e (record t.flow { reason = or_as_it_was t.flow.reason reason; output = or_as_it_was t.flow.output output });
    }

-- the acts, one after another
abbrev pub made : ℕ → List Act → Turn → Turn
made e [] t = t
made e (act ∷ rest) t = made e rest (make e act t)
