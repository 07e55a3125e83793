-- What the calls of a flow change, beside what the machine's definitions say of it.
use Rattle.std.specs.Prelude.{ℕ, zero, suc, Bool, true, false, ◌&&◌, not, if◌then◌else◌, List, [], ◌∷◌, map, Option, None, Some, Result, Ok, Err}
use Rattle.std.specs.List.{filter}
use Rattle.wf_names.specs.declared.ids.TaskNo.{TaskNo}
use Rattle.wf_doc.specs.declared.doc.Doc.{Doc}
use Rattle.wf_names.specs.declared.statuses.TaskStatus.{TaskStatus}
use Rattle.wf_names.specs.declared.statuses.TaskStatus.TheVariants.{CompletedWithErrors}
use Rattle.wf_names.specs.declared.refusals.Refusal.{Refusal}
use Rattle.wf_names.specs.declared.refusals.Refusal.TheVariants.{NotFound, NotUpdatable}
use Rattle.wf_names.specs.TaskStatus.{task_is_open, task_is_successful}
use Rattle.wf_machine.specs.declared.definition.FlowDef.{FlowDef}
use Rattle.wf_machine.specs.State.{Attempt}
use Rattle.wf_machine.specs.Records.{is_kind_at}
use Rattle.wf_machine.specs.Tasks.{takes_update}

-- ---- attempts that are open

abbrev pub is_open : Attempt → Bool
is_open a = task_is_open a.status

-- the numbers of the open attempts, in their order
abbrev pub open_numbers : List Attempt → List TaskNo
open_numbers attempts = map (λ a. a.number) (filter is_open attempts)

-- ---- updates

-- what an update of an attempt is answered: whether it changes something, or why it is refused
abbrev pub attempt_answer : FlowDef → Attempt → Result Bool Refusal
attempt_answer def a = if not (is_open a) then Ok false else if is_kind_at takes_update def a.node then Ok true else Err NotUpdatable

-- the same of an attempt that may be missing
abbrev pub update_answer : FlowDef → Option Attempt → Result Bool Refusal
update_answer def None = Err NotFound
update_answer def (Some a) = attempt_answer def a

-- ---- an attempt at its place

-- the item at that place is changed; where there is none, nothing is
abbrev pub at_place : {T : Type 0} → ℕ → (T → T) → List T → List T
at_place p change [] = []
at_place zero change (a ∷ rest) = change a ∷ rest
at_place (suc p) change (a ∷ rest) = a ∷ at_place p change rest

abbrev pub or_kept : {T : Type 0} → T → Option T → T
or_kept old None = old
or_kept old (Some new) = new

-- it ends at the moment e, with a new reason and a new output where there are some
abbrev pub closed : ℕ → TaskStatus → Option (List ℕ) → Option Doc → Attempt → Attempt
closed e status reason output a =
    record a { status = status; reason = or_kept a.reason reason; output = or_kept a.output output; updated = e; ended = Some e }

-- its passed deadline is noted, with a reason
abbrev pub poll_noted : ℕ → List ℕ → Attempt → Attempt
poll_noted e reason a = record a { poll_noted = true; reason = reason; updated = e }

abbrev pub total_noted : ℕ → List ℕ → Attempt → Attempt
total_noted e reason a = record a { total_noted = true; reason = reason; updated = e }

-- it has ended without success
abbrev pub has_failed : TaskStatus → Bool
has_failed status = not (task_is_open status) && not (task_is_successful status)

-- the flow goes on as if it had succeeded: its end, reason and output stay as they are
abbrev pub forgiven : ℕ → Attempt → Attempt
forgiven e a = record a { status = CompletedWithErrors; updated = e }

-- its loop is in that turn, with that output
abbrev pub turned : ℕ → Doc → ℕ → Attempt → Attempt
turned e output turn a = record a { output = output; turn = turn; updated = e }
