-- Worked rows of what operators do to a flow. Each was worked out by hand.
use Rattle.std.proofs.Common.{◌≡◌, ℕ, true, false, List, [], ◌∷◌, map, Option, None, Some, codes, pos, refl, arith}
use Rattle.std.specs.Prelude.{◌^◌, filter, not}
use Rattle.wf_doc.specs.declared.doc.Doc.TheVariants.{Table}
use Rattle.wf_names.specs.declared.refusals.Refusal.TheVariants as no
use Rattle.wf_names.specs.declared.statuses.TaskStatus.{TaskStatus}
use Rattle.wf_names.specs.declared.statuses.TaskStatus.TheVariants as task
use Rattle.wf_names.specs.declared.statuses.FlowStatus.{FlowStatus}
use Rattle.wf_names.specs.declared.statuses.FlowStatus.TheVariants as flow
use Rattle.wf_wire.specs.declared.limits.Limits.{Limits}
use Rattle.wf_machine.specs.declared.definition.FlowDef.{FlowDef}
use Rattle.wf_machine.specs.declared.definition.Node.{Node}
use Rattle.wf_machine.specs.declared.definition.Count.TheVariants.{Number}
use Rattle.wf_machine.specs.declared.definition.NodeKind.{NodeKind, Simple, Loop, Terminate}
use Rattle.wf_machine.specs.declared.definition.NodeKind.TheBlock.{hidden-the_row-Node-1}
use denote.Hole.Carrier.{hidden}
use Rattle.wf_machine.specs.declared.timed.Timing.{Timing}
use Rattle.wf_machine.specs.declared.timed.RetryLogic.TheVariants.{Fixed}
use Rattle.wf_machine.specs.declared.timed.TaskPolicy.TheVariants.{TimeOutWf}
use Rattle.wf_machine.specs.declared.walking.Next.TheVariants.{Schedule}
use Rattle.wf_machine.specs.Sight.{seen}
use Rattle.wf_machine.specs.State.{Attempt, Flow, new_flow, new_attempt}
use Rattle.wf_machine.specs.Marks.{last_of, next_step, node_at}
use Rattle.wf_machine.specs.Operators.{first_refusal, pause_refusals, paused, resume_refusals, retry_refusals, retried, rerun_refusals, rerun, restart_refusals, restarted, skip_refusals, skipped, terminated, remove_refusals}

abbrev few : Limits
few = record { body = 100; head = 100; fields = 10; depth = 9; nodes = 10; attempts = 4; flows = 5; batch = 5; document = 200; nesting = 3; input = 1000; body_in_range = omega arith; head_in_range = omega arith; fields_in_range = omega arith; depth_in_range = omega arith; nodes_in_range = omega arith; attempts_in_range = omega arith; flows_in_range = omega arith; batch_in_range = omega arith; document_in_range = omega arith; nesting_in_range = omega arith; input_in_range = omega arith }

abbrev node : ℕ → List ℕ → NodeKind → Node
node index reference kind = record { index = index; name = codes "x"; reference = reference; optional = false; start_delay = 0; input = Table []; kind = kind }

abbrev def : List Node → FlowDef
def nodes =
    record {
      name = codes "w";
      version = 1;
      timeout = 0;
      alert_only = false;
      restartable = true;
      template = Table [];
      output = Table [];
      nodes = nodes;
      document = Table [];
    }

-- order: pick as a, pack as b
abbrev order : FlowDef
order = def (node 0 (codes "a") Simple ∷ node 1 (codes "b") Simple ∷ [])

abbrev once : Timing
once = record { retry_count = 1; logic = Fixed; delay = 60; scale = 1; total = 0; policy = TimeOutWf; response = 0; poll = 0 }

abbrev tried : ℕ → ℕ → ℕ → TaskStatus → Attempt
tried k index retry status = record (new_attempt (record { 0 = k }) index 0 status (Table []) 0) { retry = retry; timing = Some once }

abbrev flow_of : FlowDef → FlowStatus → Option ℕ → List Attempt → Flow
flow_of d status ended attempts = record (new_flow (record { 0 = 1 }) d (Table []) [] None 0 0) { status = status; ended = ended; attempts = attempts }

abbrev standing : Flow → List ℕ
standing f = map (λ (a : Attempt). a.number.0) (filter (λ (a : Attempt). not a.superseded) f.attempts)

-- pause and resume of a flow that runs, that is paused, and that was completed
pause_of_running : first_refusal (pause_refusals (flow_of order flow.Running None [])) ≡ None
pause_of_running = refl

pause_of_paused : first_refusal (pause_refusals (paused (flow_of order flow.Running None []))) ≡ Some no.NotRunning
pause_of_paused = refl

resume_of_paused : first_refusal (resume_refusals (paused (flow_of order flow.Running None []))) ≡ None
resume_of_paused = refl

pause_of_completed : first_refusal (pause_refusals (flow_of order flow.Completed (Some 9) [])) ≡ Some no.NotRunning
pause_of_completed = refl

resume_of_completed : first_refusal (resume_refusals (flow_of order flow.Completed (Some 9) [])) ≡ Some no.NotPaused
resume_of_completed = refl

-- the first task was completed, the second failed, and its retries are used up
abbrev torn : Flow
torn = record (flow_of order flow.Failed (Some 20) (tried 1 0 0 task.Completed ∷ tried 2 1 1 task.Failed ∷ [])) { reason = codes "torn" }

retry_of_failed : first_refusal (retry_refusals torn) ≡ None
retry_of_failed = refl

retry_keeps_the_first : standing (retried 30 torn) ≡ 1 ∷ []
unfolding node_at
retry_keeps_the_first = refl

retry_goes_on_at_the_second : next_step (map seen (retried 30 torn).attempts) order.nodes ≡ Schedule 1 0
unfolding last_of node_at
retry_goes_on_at_the_second = refl

abbrev completed : Flow
completed = flow_of order flow.Completed (Some 40) (tried 1 0 0 task.Completed ∷ record (tried 2 1 1 task.Failed) { superseded = true } ∷ tried 3 1 0 task.Completed ∷ [])

retry_of_completed : first_refusal (retry_refusals completed) ≡ Some no.WasCompleted
retry_of_completed = refl

rerun_of_completed : first_refusal (rerun_refusals (record { 0 = 1 }) completed) ≡ None
unfolding node_at
rerun_of_completed = refl

-- a superseded attempt begins none
rerun_of_superseded : first_refusal (rerun_refusals (record { 0 = 2 }) completed) ≡ Some no.NotRerunnable
unfolding node_at
rerun_of_superseded = refl

rerun_from_the_first : standing (rerun 50 (record { 0 = 1 }) None completed) ≡ []
unfolding node_at
rerun_from_the_first = refl

rerun_from_the_second : standing (rerun 50 (record { 0 = 3 }) None completed) ≡ 1 ∷ []
unfolding node_at
rerun_from_the_second = refl

-- terminate: the attempt is CANCELED
abbrev again : Flow
again = flow_of order flow.Running None (tried 4 0 0 task.Scheduled ∷ [])

terminate_cancels : map (λ (a : Attempt). a.status) (terminated 60 (codes "stop") again).attempts ≡ task.Canceled ∷ []
terminate_cancels = refl

terminate_gives_the_reason : (terminated 60 (codes "stop") again).reason ≡ codes "stop"
terminate_gives_the_reason = refl

restart_of_terminated : first_refusal (restart_refusals (terminated 60 (codes "stop") again)) ≡ None
restart_of_terminated = refl

restart_leaves_none : (restarted 70 (terminated 60 (codes "stop") again)).attempts ≡ []
restart_leaves_none = refl

-- skip of b while a is SCHEDULED, and once more
abbrev at_a : Flow
at_a = flow_of order flow.Running None (tried 5 0 0 task.Scheduled ∷ [])

skip_of_fresh : first_refusal (skip_refusals few (codes "b") 6 at_a) ≡ None
unfolding last_of
skip_of_fresh = refl

skip_of_skipped : first_refusal (skip_refusals few (codes "b") 7 (skipped 80 (codes "b") (Table []) (Table []) (record { 0 = 6 }) at_a)) ≡ Some no.AlreadyScheduled
unfolding last_of
skip_of_skipped = refl

skip_of_no_node : first_refusal (skip_refusals few (codes "c") 6 at_a) ≡ Some no.NotFound
unfolding last_of
skip_of_no_node = refl

-- of a flow that failed
skip_in_failed : first_refusal (skip_refusals few (codes "b") 6 torn) ≡ Some no.NotRunning
skip_in_failed = refl

remove_of_running : first_refusal (remove_refusals false at_a) ≡ Some no.NotTerminal
remove_of_running = refl

-- an attempt failed, and its retry failed too: the retry takes away the later one alone, and the first is retried anew
abbrev used_up : Flow
used_up =
    flow_of order flow.Failed (Some 20)
    (tried 1 0 0 task.Completed ∷ tried 3 1 0 task.Failed ∷ record (tried 5 1 1 task.Failed) { retried = Some (record { 0 = 3 }) } ∷ [])

used_up_retried : standing (retried 30 used_up) ≡ 1 ∷ 3 ∷ []
unfolding node_at
used_up_retried = refl

-- a retry takes away the task that ended the flow, though it was successful
abbrev stopped : Flow
stopped =
    flow_of (def (node 0 (codes "a") Simple ∷ node 1 (codes "t") Terminate ∷ [])) flow.Failed (Some 20)
    (tried 1 0 0 task.Completed ∷ tried 2 1 0 task.Completed ∷ [])

stopped_retried : standing (retried 30 stopped) ≡ 1 ∷ []
unfolding node_at
stopped_retried = refl

-- a loop l over a, and b behind it
abbrev looped : FlowDef
looped = def (node 0 (codes "l") (Loop (Number (pos 3)) (node 1 (codes "a") Simple ∷ [])) ∷ node 2 (codes "b") Simple ∷ [])

skip_in_a_loop : first_refusal (skip_refusals few (codes "a") 6 (flow_of looped flow.Running None [])) ≡ Some no.NotFound
unfolding last_of hidden-the_row-Node-1 hidden
skip_in_a_loop = refl

skip_of_a_loop : first_refusal (skip_refusals few (codes "l") 6 (flow_of looped flow.Running None [])) ≡ Some no.NotFound
unfolding last_of hidden-the_row-Node-1 hidden
skip_of_a_loop = refl

skip_behind_a_loop : first_refusal (skip_refusals few (codes "b") 6 (flow_of looped flow.Running None [])) ≡ None
unfolding last_of hidden-the_row-Node-1 hidden
skip_behind_a_loop = refl

abbrev went_round : Flow
went_round =
    flow_of looped flow.Completed (Some 40)
    (tried 1 0 0 task.Completed ∷ record (tried 2 1 0 task.Completed) { iteration = 1 } ∷ tried 3 2 0 task.Completed ∷ [])

rerun_in_a_loop : first_refusal (rerun_refusals (record { 0 = 2 }) went_round) ≡ Some no.NotRerunnable
unfolding node_at hidden-the_row-Node-1 hidden
rerun_in_a_loop = refl

rerun_from_a_loop : standing (rerun 50 (record { 0 = 1 }) None went_round) ≡ []
unfolding node_at hidden-the_row-Node-1 hidden
rerun_from_a_loop = refl

rerun_behind_a_loop : standing (rerun 50 (record { 0 = 3 }) None went_round) ≡ 1 ∷ 2 ∷ []
unfolding node_at hidden-the_row-Node-1 hidden
rerun_behind_a_loop = refl

-- no number is left
skip_without_a_number : first_refusal (skip_refusals few (codes "b") (2 ^ 56) at_a) ≡ Some no.AttemptLimit
unfolding last_of
skip_without_a_number = refl

-- superseded attempts count towards the limit of attempts
skip_at_the_limit : first_refusal (skip_refusals (record few { attempts = 1; attempts_in_range = omega arith }) (codes "b") 6 (record at_a { attempts = record (tried 5 0 0 task.Failed) { superseded = true } ∷ [] })) ≡ Some no.AttemptLimit
unfolding last_of
skip_at_the_limit = refl

-- restart of a completed flow whose definition doesn't allow it, and of a child
restart_of_completed : first_refusal (restart_refusals (record completed { def = record order { restartable = false } })) ≡ Some no.NotRestartable
restart_of_completed = refl

restart_of_a_child : first_refusal (restart_refusals (record completed { parent = Some (record { 0 = 7 }, record { 0 = 8 }) })) ≡ Some no.IsChild
restart_of_a_child = refl

remove_of_a_child : first_refusal (remove_refusals true at_a) ≡ Some no.IsChild
remove_of_a_child = refl
