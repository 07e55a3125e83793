-- What every state of a history keeps, where the first one does: no number is given twice, and no flow is nested in itself.
use Rattle.std.specs.Prelude.{◌≡◌, ℕ, ◌+◌, ◌<◌, ◌≤◌, Bool, true, if◌then◌else◌, is_some, All, List, [], ◌∷◌}
use Rattle.wf_names.specs.declared.ids.FlowNo.{FlowNo}
use Rattle.wf_names.specs.declared.ids.TaskNo.{TaskNo}
use Rattle.wf_machine.specs.Flows.{flow_numbered}
use Rattle.wf_machine.specs.Records.{Held}
use Rattle.wf_steps.specs.declared.calling.Call.{Call}
use Rattle.wf_steps.specs.declared.calling.Call.TheVariants.{AddFlowDef, PutFlowDefs}
use Rattle.wf_machine.specs.declared.definition.FlowDef.{FlowDef}
use Rattle.wf_machine.specs.State.{Attempt, Kept, State, RisingTo, is_numbered}
use Rattle.wf_rules.specs.Loops.{LoopsFit}

-- how many attempts have that number
abbrev pub tally_in : TaskNo → List Attempt → ℕ
tally_in task [] = 0
tally_in task (a ∷ rest) = (if is_numbered task a then 1 else 0) + tally_in task rest

abbrev pub tally : TaskNo → List Kept → ℕ
tally task [] = 0
tally task (k ∷ ks) = tally_in task k.flow.attempts + tally task ks

-- the flows stand by rising number, from `low` on and below `high`
abbrev pub FlowsRise : ℕ → ℕ → List Kept → Type 0
FlowsRise low high [] = low ≤ high
FlowsRise low high (k ∷ ks) = (low ≤ k.flow.number.0) × FlowsRise (k.flow.number.0 + 1) high ks

-- its attempts stand by rising number, and a flow that it is nested in has a lower number than its own
pub record IsSoundFlow (next_task : ℕ) (k : Kept) : Type 0 where
  pub rising : RisingTo 1 next_task k.flow.attempts
  pub parent : Held (λ p. p.0.0 < k.flow.number.0) k.flow.parent

pub record IsSound (s : State) : Type 0 where
  pub rise : FlowsRise 1 s.next_flow s.flows
  pub from_one : 1 ≤ s.next_task
  pub flows : All (IsSoundFlow s.next_task) s.flows
  pub once : (task : TaskNo) → tally task s.flows ≤ 1

-- ---- numbers

abbrev pub is_kept : FlowNo → List Kept → Bool
is_kept number flows = is_some (flow_numbered number flows)

-- the second state comes after the first: the next numbers don't fall, and a number that was given by the first one and isn't
-- there any more doesn't come back
pub record IsLater (s t : State) : Type 0 where
  pub next_flow : s.next_flow ≤ t.next_flow
  pub next_task : s.next_task ≤ t.next_task
  pub flows : (number : FlowNo) → number.0 < s.next_flow → is_kept number t.flows ≡ true → is_kept number s.flows ≡ true
  pub tasks : (task : TaskNo) → task.0 < s.next_task → tally task t.flows ≤ tally task s.flows

-- ---- loops

-- the loops of all registered workflows fit, and those of all kept flows
pub record HasFitLoops (s : State) : Type 0 where
  pub registered : All (λ (d : FlowDef). LoopsFit d.nodes) s.flow_defs
  pub kept : All (λ (k : Kept). LoopsFit k.flow.def.nodes) s.flows

-- the loops of the workflows that a call registers fit
abbrev pub BringsFitLoops : Call → Type 0
BringsFitLoops (AddFlowDef def) = LoopsFit def.nodes
BringsFitLoops (PutFlowDefs defs) = All (λ (d : FlowDef). LoopsFit d.nodes) defs
BringsFitLoops call = Unit {0}
