-- What the rules for late and lost attempts read: of a flow its definition alone.
use Rattle.std.specs.Prelude.{ℕ, Bool, false, if◌then◌else◌, ◌&&◌, nat_lt, nat_le, List, [], ◌∷◌, ◌++◌, codes, Option, None, Some, option_and_then}
use Rattle.std.specs.Option.{option_map_or}
use Rattle.wf_names.specs.TaskStatus.{task_is_open, task_status_text}
use Rattle.wf_machine.specs.declared.definition.FlowDef.{FlowDef}
use Rattle.wf_machine.specs.declared.definition.Node.{Node}
use Rattle.wf_machine.specs.declared.timed.Cause.{Cause}
use Rattle.wf_machine.specs.declared.timed.Cause.TheVariants.{Poll, Response, Total, Wait}
use Rattle.wf_machine.specs.declared.timed.Timing.{Timing}
use Rattle.wf_machine.specs.Documents.{reference_text}
use Rattle.wf_machine.specs.Marks.{node_at}
use Rattle.wf_machine.specs.Records.{is_kind_at, is_simple}
use Rattle.wf_machine.specs.Sight.{Seen}
use Rattle.wf_machine.specs.State.{Attempt}
use Rattle.wf_time.specs.Deadlines.{deadline}
use Rattle.wf_rules.specs.declared.acting.Act.{Act}
use Rattle.wf_rules.specs.declared.acting.Act.TheVariants.{Close, Forgive, End}
use Rattle.wf_rules.specs.declared.acting.Alert.TheVariants.{Poll as PollAlert, Total as TotalAlert}
use Rattle.wf_rules.specs.declared.acting.Outcome.TheVariants.{Completed}
use Rattle.wf_rules.specs.Rules.{by_policy, end_for, may_retry, policy_of, timed_out}
use Rattle.wf_rules.specs.Sight.{clocked, due}

-- ---- deadlines

-- the earliest deadline of an open attempt
abbrev pub deadline_of : Attempt → Option (ℕ × Cause)
deadline_of a = if task_is_open a.status then deadline a.timing (clocked a) else None

abbrev pub first_cause : List Cause → Option Cause
first_cause [] = None
first_cause (cause ∷ more) = Some cause

-- why it is due first
abbrev pub cause_due : ℕ → Attempt → Option Cause
cause_due e a = first_cause (due e a)

-- the same, of one deadline
abbrev pub passed : ℕ → ℕ × Cause → Option Cause
passed e d = if nat_le d.0 e then Some d.1 else None

-- what a passed deadline does to an attempt with that timing
abbrev pub acts_due : Option Timing → ℕ → Cause → List Act
acts_due timing p Poll = by_policy p PollAlert (codes "poll timeout") (policy_of timing)
acts_due timing p Response = timed_out p (codes "response timeout") ∷ []
acts_due timing p Total = by_policy p TotalAlert (codes "total timeout") (policy_of timing)
acts_due timing p Wait = Close p Completed None None ∷ []

-- ---- lost attempts

-- the timing, where it has retries left
abbrev pub timing_left : ℕ → Option Timing → Option Timing
timing_left retry timing = option_and_then (λ (t : Timing). if nat_lt retry t.retry_count then Some t else None) timing

-- the timing of an attempt that is retried once more
abbrev pub timing_again : FlowDef → Seen → Option Timing
timing_again def a = if is_kind_at is_simple def a.node && may_retry a.status then timing_left a.retry a.timing else None

abbrev pub optional_at : FlowDef → ℕ → Bool
optional_at def node = option_map_or (λ (n : Node). n.optional) (node_at def.nodes node) false

abbrev pub reference_at : FlowDef → Seen → List ℕ
reference_at def a = option_map_or (λ (n : Node). reference_text n.reference a.iteration) (node_at def.nodes a.node) []

-- why it was lost
abbrev pub reason_given : FlowDef → Seen → List ℕ → List ℕ
reason_given def a [] = codes "task " ++ reference_at def a ++ codes " " ++ task_status_text a.status
reason_given def a reason = reason

abbrev pub acts_unretried : FlowDef → ℕ → Seen → List Act
acts_unretried def p a =
    if optional_at def a.node then Forgive p ∷ [] else End (end_for a.status) (Some (reason_given def a a.reason)) None ∷ []
