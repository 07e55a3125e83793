-- Worked rows of the rules: a flow of SIMPLE nodes at a moment, and what the first rule that applies wants done. Each was worked out by hand.
use Rattle.std.proofs.Common.{◌≡◌, ℕ, Bool, true, false, List, [], ◌∷◌, codes, pos, refl, None, Some}
use Rattle.std.specs.Prelude.{Option}
use Rattle.wf_doc.specs.declared.doc.Doc.TheVariants.{Null}
use Rattle.wf_names.specs.declared.statuses.TaskStatus.{TaskStatus}
use Rattle.wf_names.specs.declared.statuses.TaskStatus.TheVariants as task
use Rattle.wf_names.specs.declared.statuses.FlowStatus.{FlowStatus}
use Rattle.wf_names.specs.declared.statuses.FlowStatus.TheVariants as flow
use Rattle.wf_wire.specs.declared.limits.Limits.{Limits}
use Rattle.wf_machine.specs.declared.definition.Count.TheVariants.{Number}
use Rattle.wf_machine.specs.declared.definition.FlowDef.{FlowDef}
use Rattle.wf_machine.specs.declared.definition.Node.{Node}
use Rattle.wf_machine.specs.declared.definition.NodeKind.{Simple}
use Rattle.wf_machine.specs.declared.sight.ChildState.{ChildState}
use Rattle.wf_machine.specs.declared.timed.RetryLogic.TheVariants.{Fixed}
use Rattle.wf_machine.specs.declared.timed.TaskPolicy.{TaskPolicy}
use Rattle.wf_machine.specs.declared.timed.TaskPolicy.TheVariants.{Retry, TimeOutWf, AlertOnly}
use Rattle.wf_machine.specs.declared.timed.Timing.{Timing}
use Rattle.wf_machine.specs.State.{Attempt, empty_table, new_attempt, new_flow}
use Rattle.wf_machine.specs.Marks.{last_of, node_at}
use Rattle.wf_rules.specs.declared.acting.Act.{Act}
use Rattle.wf_rules.specs.declared.acting.Act.TheVariants.{Add, Close, Note, Forgive, NoteFlow, End}
use Rattle.wf_rules.specs.declared.acting.Alert.TheVariants.{Poll}
use Rattle.wf_rules.specs.declared.acting.Begin.TheVariants.{Queued}
use Rattle.wf_rules.specs.declared.acting.Child.TheVariants.{Nothing}
use Rattle.wf_rules.specs.declared.acting.Outcome.{Outcome}
use Rattle.wf_rules.specs.declared.acting.Outcome.TheVariants.{Completed, Failed, TimedOut}
use Rattle.wf_rules.specs.Outputs.{is_too_large, child_output, turns_on}
use Rattle.wf_rules.specs.Sight.{Scene, Sight, sight}
use Rattle.wf_rules.specs.Acts.{Turn, make}
use Rattle.wf_rules.specs.Scheduling.{sub_flow_at, refused_at, child_at}
use Rattle.wf_rules.specs.Rules.{pick, choose, child_ended}

-- ---- flows

abbrev simple : ℕ → Bool → Node
simple index optional =
    record { index = index; name = []; reference = codes "a"; optional = optional; start_delay = 0; input = Null; kind = Simple }

-- a workflow of these nodes, which may run for so many seconds
abbrev workflow : ℕ → Bool → List Node → FlowDef
workflow timeout alert_only nodes =
    record {
      name = [];
      version = 1;
      timeout = timeout;
      alert_only = alert_only;
      restartable = true;
      template = Null;
      output = Null;
      nodes = nodes;
      document = Null;
    }

-- no deadline but that of the response, after one second, and so many retries after 60 seconds
abbrev response : ℕ → Timing
response retries =
    record { retry_count = retries; logic = Fixed; delay = 60; scale = 1; total = 0; policy = Retry; response = 1; poll = 0 }

-- no deadline but that of the poll, after two seconds
abbrev unpolled : TaskPolicy → Timing
unpolled policy =
    record { retry_count = 0; logic = Fixed; delay = 60; scale = 1; total = 0; policy = policy; response = 0; poll = 2 }

-- the first attempt, at node 0, scheduled at the moment 0
abbrev first : TaskStatus → Timing → Attempt
first status timing = record (new_attempt (record { 0 = 1 }) 0 0 status Null 0) { timing = Some timing }

-- polled at the moment 500
abbrev polled : Timing → Attempt
polled timing = record (first task.InProgress timing) { first_poll = Some 500; last_poll = 500; polls = 1 }

-- ended, with that reason
abbrev over : TaskStatus → List ℕ → Timing → Attempt
over status reason timing = record (first status timing) { reason = reason }

-- a flow that was started at the moment 0, with that attempt
abbrev running : FlowDef → Attempt → Turn
running def a =
    record {
      flow = record (new_flow (record { 0 = 1 }) def Null [] None 0 0) { attempts = a ∷ [] };
      children = [];
      next_flow = 2;
      next_task = 2;
    }

abbrev alone : Bool → Scene
alone orphan = record { mark = 1; task_defs = []; flow_defs = []; orphan = orphan; children = [] }

abbrev order : FlowDef
order = workflow 0 false (simple 0 false ∷ [])

-- what the first rule that applies wants done at the moment e
abbrev wants : Limits → ℕ → FlowDef → Attempt → Option (List Act)
wants limits e def a = choose limits (alone false) 1 e (running def a)

-- ---- rows

-- a response that is due at 1500
pub before_the_response : (limits : Limits) → wants limits 1499 order (polled (response 0)) ≡ None
unfolding pick sight last_of
before_the_response limits = refl

pub at_the_response : (limits : Limits) → wants limits 1500 order (polled (response 0)) ≡ Some (Close 0 TimedOut (Some (codes "response timeout")) None ∷ [])
unfolding pick sight last_of
at_the_response limits = refl

-- that attempt isn't retried, and ends the flow
pub behind_the_response : (limits : Limits) → wants limits 1500 order (over task.TimedOut (codes "response timeout") (response 0)) ≡ Some (End flow.TimedOut (Some (codes "response timeout")) None ∷ [])
unfolding pick sight last_of node_at
behind_the_response limits = refl

-- a poll that is due at 2000, by each policy
pub before_the_poll : (limits : Limits) → wants limits 1999 order (first task.Scheduled (unpolled Retry)) ≡ None
unfolding pick sight last_of
before_the_poll limits = refl

pub poll_retries : (limits : Limits) → wants limits 2000 order (first task.Scheduled (unpolled Retry)) ≡ Some (Close 0 TimedOut (Some (codes "poll timeout")) None ∷ [])
unfolding pick sight last_of
poll_retries limits = refl

pub poll_ends : (limits : Limits) → wants limits 2000 order (first task.Scheduled (unpolled TimeOutWf))
    ≡ Some (Close 0 TimedOut (Some (codes "poll timeout")) None ∷ End flow.TimedOut (Some (codes "poll timeout")) None ∷ [])
unfolding pick sight last_of
poll_ends limits = refl

pub poll_alerts : (limits : Limits) → wants limits 2000 order (first task.Scheduled (unpolled AlertOnly)) ≡ Some (Note 0 Poll (codes "poll timeout") ∷ [])
unfolding pick sight last_of
poll_alerts limits = refl

-- once it is noted it is no deadline any more
pub poll_noted_once : (limits : Limits) → wants limits 9000 order (record (first task.Scheduled (unpolled AlertOnly)) { poll_noted = true }) ≡ None
unfolding pick sight last_of
poll_noted_once limits = refl

-- a failure for good, with a reason, without one, and at an optional node
pub failed_for_good : (limits : Limits) → wants limits 9 order (over task.FailedWithTerminalError (codes "no") (response 3)) ≡ Some (End flow.Failed (Some (codes "no")) None ∷ [])
unfolding pick sight last_of node_at
failed_for_good limits = refl

pub failed_unsaid : (limits : Limits) → wants limits 9 order (over task.FailedWithTerminalError [] (response 3))
    ≡ Some (End flow.Failed (Some (codes "task a FAILED_WITH_TERMINAL_ERROR")) None ∷ [])
unfolding pick sight last_of node_at
failed_unsaid limits = refl

pub failed_optional : (limits : Limits) → wants limits 9 (workflow 0 false (simple 0 true ∷ [])) (over task.Failed (codes "no") (response 0)) ≡ Some (Forgive 0 ∷ [])
unfolding pick sight last_of node_at
failed_optional limits = refl

-- the same work once more, after the delay
abbrev once_more : Act
once_more =
    Add (record {
      node = 0;
      iteration = 0;
      begin = Queued (response 1) 60;
      input = Null;
      output = empty_table;
      reason = [];
      retry = 1;
      retried = Some 0;
      turn = 0;
      child = Nothing;
    })

-- a failure and a passed deadline are retried alike
pub failed_retried : (limits : Limits) → limits.attempts ≡ 4096 → is_too_large limits Null ≡ false → is_too_large limits empty_table ≡ false
    → wants limits 9 order (over task.Failed (codes "no") (response 1)) ≡ Some (once_more ∷ [])
unfolding pick sight last_of node_at
failed_retried limits many input output = rw (many, input, output) refl

pub timed_out_retried : (limits : Limits) → limits.attempts ≡ 4096 → is_too_large limits Null ≡ false → is_too_large limits empty_table ≡ false
    → wants limits 1500 order (over task.TimedOut (codes "response timeout") (response 1)) ≡ Some (once_more ∷ [])
unfolding pick sight last_of node_at
timed_out_retried limits many input output = rw (many, input, output) refl

-- a flow that may run for one second, by both policies
pub over_time : (limits : Limits) → wants limits 1000 (workflow 1 false (simple 0 false ∷ [])) (polled (response 0)) ≡ Some (End flow.TimedOut (Some (codes "workflow timed out")) None ∷ [])
unfolding pick sight last_of
over_time limits = refl

pub over_time_alerts : (limits : Limits) → wants limits 1000 (workflow 1 true (simple 0 false ∷ [])) (polled (response 0)) ≡ Some (NoteFlow (codes "workflow timed out") ∷ [])
unfolding pick sight last_of
over_time_alerts limits = refl

-- a flow whose parent's attempt is over ends before all else
pub without_parent : (limits : Limits) → choose limits (alone true) 1 9000 (running (workflow 1 false (simple 0 false ∷ [])) (polled (response 0)))
    ≡ Some (End flow.Terminated (Some (codes "parent ended")) None ∷ [])
unfolding pick sight last_of
without_parent limits = refl

-- ---- children, loops, and what an act makes

-- an attempt ends as its child did, with its reason
abbrev child : FlowStatus → ChildState
child status = record { flow = record { 0 = 2 }; status = status; output = empty_table; reason = codes "torn" }

abbrev as_child : Outcome → List Act
as_child outcome = Close 0 outcome (Some (codes "torn")) (Some (child_output 1 (child flow.Completed))) ∷ []

pub child_completed : (limits : Limits) → is_too_large limits (child_output 1 (child flow.Completed)) ≡ false → child_ended limits (alone false) 0 (child flow.Completed) ≡ as_child Completed
child_completed limits small = rw small refl

pub child_timed_out : (limits : Limits) → is_too_large limits (child_output 1 (child flow.TimedOut)) ≡ false → child_ended limits (alone false) 0 (child flow.TimedOut) ≡ as_child TimedOut
child_timed_out limits small = rw small refl

pub child_failed : (limits : Limits) → is_too_large limits (child_output 1 (child flow.Failed)) ≡ false → child_ended limits (alone false) 0 (child flow.Failed) ≡ as_child Failed
child_failed limits small = rw small refl

pub child_terminated : (limits : Limits) → is_too_large limits (child_output 1 (child flow.Terminated)) ≡ false → child_ended limits (alone false) 0 (child flow.Terminated) ≡ as_child Failed
child_terminated limits small = rw small refl

-- a flow of depth 16 starts none, and one of depth 15 may
pub too_deep : (limits : Limits) (s : Sight) (n : Node) (def : FlowDef) → limits.nesting ≡ 16 → s.depth ≡ 16
    → sub_flow_at limits s n 0 (codes "c") (Some def) Null ≡ refused_at n 0 (codes "sub-workflow depth") Null
too_deep limits s n def most depth = rw (most, depth) refl

pub deep_enough : (limits : Limits) (s : Sight) (n : Node) (def : FlowDef) → limits.nesting ≡ 16 → s.depth ≡ 15
    → sub_flow_at limits s n 0 (codes "c") (Some def) Null ≡ child_at limits n 0 def Null
deep_enough limits s n def most depth = rw (most, depth) refl

-- a loop of three turns: there is one more after the second, and none after the third
pub second_turn : turns_on 2 (Number (pos 3)) Null ≡ true
second_turn = refl

pub third_turn : turns_on 3 (Number (pos 3)) Null ≡ false
third_turn = refl

-- an attempt that is closed has ended and changed at that moment
pub closed_then : (make 1500 (Close 0 TimedOut (Some (codes "response timeout")) None) (running order (polled (response 0)))).flow.attempts
    ≡ record (polled (response 0)) { status = task.TimedOut; reason = codes "response timeout"; updated = 1500; ended = Some 1500 } ∷ []
closed_then = refl

-- one that waits and is canceled with its flow keeps its reason
pub canceled_then : (make 1500 (End flow.TimedOut (Some (codes "workflow timed out")) None) (running order (polled (response 0)))).flow.attempts
    ≡ record (polled (response 0)) { status = task.Canceled; updated = 1500; ended = Some 1500 } ∷ []
canceled_then = refl
