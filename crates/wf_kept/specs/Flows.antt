-- Kept flows, as contracts see them, and what a change of one must meet.
use Rattle.std.specs.Prelude.{◌≡◌, ℕ, ◌+◌, ◌-◌, List, [], ◌∷◌, ◌++◌, length, map, if◌then◌else◌, Some}
use Rattle.std.specs.Option.{option_map_or}
use Rattle.wf_machine.specs.State.{Attempt, Flow, Kept, RisingTo}
use Rattle.wf_names.specs.declared.ids.FlowNo.{FlowNo}
use Rattle.wf_machine.specs.Flows.{flow_numbered, is_concerned, is_flow, removed, revised}
use Rattle.wf_kept.specs.declared.kept.KeptFlow.{KeptFlow}

-- a flow as the machine keeps it: without the room that it has
abbrev pub kept : KeptFlow → Kept
kept k = record { flow = k.flow.flow; revision = k.revision }

abbrev pub all_kept : List KeptFlow → List Kept
all_kept flows = map kept flows

-- the kept flows, the numbers of the next flow and the next attempt, and how many more flows and attempts have room
pub record FlowTable : Type 0 where
  pub kept : List Kept
  pub next_flow : ℕ
  pub next_task : ℕ
  pub spare_flows : ℕ
  pub spare_tasks : ℕ

abbrev pub flow_number : Kept → ℕ
flow_number k = k.flow.number.0

abbrev pub attempt_number : Attempt → ℕ
attempt_number a = a.number.0

abbrev pub attempt_count : Kept → ℕ
attempt_count k = length k.flow.attempts

-- the flow's attempts have rising numbers, from 1 on and below `high`
abbrev pub AreAttemptsBelow : ℕ → Kept → Type 0
AreAttemptsBelow high k = RisingTo 1 high k.flow.attempts

-- the flow is the kept one of its number, and its attempts have numbers below the next one
pub record IsKeptIn (table : FlowTable) (k : Kept) : Type 0 where
  pub itself : flow_numbered k.flow.number table.kept ≡ Some k
  pub attempts : AreAttemptsBelow table.next_task k

-- the new attempts are the old ones, each as it may be by now, and then more with numbers from `low`, below `high`
pub record IsGrown (old new : List Attempt) (low high : ℕ) : Type 0 where
  pub first : List Attempt
  pub more : List Attempt
  pub is : new ≡ first ++ more
  pub numbers : map attempt_number first ≡ map attempt_number old
  pub rising : RisingTo low high more

-- a flow of that number is kept, and this one has grown from it: its new attempts have numbers from `next_task` of
-- the table, below the one given
pub record IsGrownFlow (table : FlowTable) (flow : Flow) (next_task : ℕ) : Type 0 where
  pub old : Kept
  pub found : flow_numbered flow.number table.kept ≡ Some old
  pub grown : IsGrown old.flow.attempts flow.attempts table.next_task next_task

-- a flow of that number is kept, and this one has begun anew: all its attempts have numbers from `next_task` of the
-- table, below the one given
pub record IsAnewFlow (table : FlowTable) (flow : Flow) (next_task : ℕ) : Type 0 where
  pub old : Kept
  pub found : flow_numbered flow.number table.kept ≡ Some old
  pub rising : RisingTo table.next_task next_task flow.attempts

-- how many attempts the flow has more than the kept flow of its number
abbrev pub new_attempts : Flow → List Kept → ℕ
new_attempts flow flows = length flow.attempts - option_map_or attempt_count (flow_numbered flow.number flows) 0

-- the flows with this one in place of that of its number
abbrev pub with_kept : Kept → List Kept → List Kept
with_kept k flows = map (λ x. if is_flow k.flow.number x then k else x) flows

-- a flow that the change of another concerns is revised, by the entry at that place
abbrev pub revised_with : ℕ → Flow → Flow → Kept → Kept
revised_with place before now k = if is_concerned before now k.flow then record k { revision = place } else k

-- the flows when the kept one of that number has become this one, by the entry at that place
abbrev pub flow_changed : ℕ → Flow → List Kept → List Kept
flow_changed place now flows = option_map_or (λ (before : Kept). map (revised place before.flow now) flows) (flow_numbered now.number flows) flows

-- the flows without the kept one of that number, by the entry at that place
abbrev pub flow_removed : ℕ → FlowNo → List Kept → List Kept
flow_removed place number flows = option_map_or (λ (k : Kept). removed place k.flow flows) (flow_numbered number flows) flows

-- flows of consecutive numbers without attempts: those that a decision starts
abbrev pub AreStarted : ℕ → List Flow → Type 0
AreStarted number [] = Unit {0}
AreStarted number (f ∷ fs) = (f.number.0 ≡ number) × (f.attempts ≡ []) × AreStarted (number + 1) fs
