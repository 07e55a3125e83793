-- One turn of a run: the next request is answered, or the run stops.
use Rattle.std.specs.Prelude.{◌≡◌, ◌⊎◌, ℕ, Bool, true, false, List, [], ◌++◌, Option, Some}
use Rattle.wf_wire.specs.declared.limits.Limits.{Limits}
use Rattle.wf_wire.specs.declared.inbox.Next.{Next}
use Rattle.wf_wire.specs.declared.inbox.Next.TheVariants as next
use Rattle.wf_wire.specs.Items.{IsMessage, IsStop, Leads}
use Rattle.wf_wire.specs.Request.{Request}
use Rattle.wf_machine.specs.declared.calling.Reply.{Reply}
use Rattle.wf_machine.specs.State.{State}
use Rattle.wf_steps.specs.History.{stored, state_after}
use Rattle.wf_rest.specs.Moments.{moment_at}
use Rattle.wf_rest.specs.Serving.{call_of, Answered, IsAsked, IsLegal, answer_bytes, history_of, is_last, moment_after, requests, wire}
use Rattle.wf_commands.specs.declared.status.Status.{Status}
use Rattle.wf_commands.specs.declared.status.Status.TheVariants.{Done, NoMemory, ReadFault, WriteFault, BadFrame, Cut, LongInput, TooLarge}
use Rattle.wf_commands.specs.declared.batch.Turn.{Turn}
use Rattle.wf_commands.specs.declared.batch.Turn.TheVariants.{Goes, Stops}
use Rattle.wf_commands.specs.Runs.{IsOpen, end_bytes, first_mark, first_state}
use Rattle.wf_commands.specs.Written.{Appends, AppendsPart}

-- the request was asked, these bytes are the answer, and whether it is the last one
pub record IsAnswer (limits : Limits) (moment : ℕ) (s s' : State) (m : Request) (last : Bool) (bytes : List ℕ) : Type 0 where
  pub reply : Option Reply
  pub asked : IsAsked limits moment s s' (call_of limits first_mark m) reply
  pub are : bytes ≡ answer_bytes limits first_mark m reply
  pub ends : is_last limits first_mark (record { request = m; reply = reply }) ≡ last

-- what answering a request leaves
abbrev pub IsAnswered : Limits → ℕ → State → State → Request → Option (List ℕ) → Option (List ℕ) → Turn → Type 0
IsAnswered limits moment s s' m old new Goes = (bytes : List ℕ) × (IsAnswer limits moment s s' m false bytes × Appends old new bytes)
IsAnswered limits moment s s' m old new (Stops Done) = (bytes : List ℕ) × (IsAnswer limits moment s s' m true bytes × Appends old new bytes)
IsAnswered limits moment s s' m old new (Stops WriteFault) =
    (bytes : List ℕ) × ((last : Bool) × (IsAnswer limits moment s s' m last bytes × AppendsPart old new [] bytes))
IsAnswered limits moment s s' m old new (Stops NoMemory) = Appends old new []
IsAnswered limits moment s s' m old new (Stops status) = ⊥

-- what refusing the rest of an input leaves: the bytes of the fault and this status, or a part of them
abbrev pub IsRefused : List ℕ → Status → Option (List ℕ) → Option (List ℕ) → Status → Type 0
IsRefused bytes told old new status =
    ((status ≡ told) × Appends old new bytes)
    ⊎ (((status ≡ WriteFault) × AppendsPart old new [] bytes) ⊎ ((status ≡ NoMemory) × Appends old new []))

-- what stopping there leaves
abbrev pub IsStopped : Next → Option (List ℕ) → Option (List ℕ) → Status → Type 0
IsStopped (next.Message m) old new status = ⊥
IsStopped next.End old new status = (status ≡ Done) × Appends old new []
IsStopped (next.Cut a) old new status = (status ≡ Cut a) × Appends old new []
IsStopped (next.BadFrame a) old new status = IsRefused (end_bytes (next.BadFrame a)) (BadFrame a) old new status
IsStopped (next.BadCoding a) old new status = IsRefused (end_bytes (next.BadCoding a)) (BadFrame a) old new status
IsStopped (next.LargeHead a) old new status = IsRefused (end_bytes (next.LargeHead a)) (TooLarge a) old new status
IsStopped (next.LargeBody a) old new status = IsRefused (end_bytes (next.LargeBody a)) (TooLarge a) old new status
IsStopped next.LongInput old new status = (status ≡ LongInput) × Appends old new []
IsStopped next.ReadFault old new status = (status ≡ ReadFault) × Appends old new []
IsStopped next.NoMemory old new status = (status ≡ NoMemory) × Appends old new []

-- at the offset o stand p, of which the source then has `left`: a request was answered at its moment, where `before` was
-- in force, or the run stops
abbrev pub IsTurn : Limits → ℕ → ℕ → ℕ → List ℕ → List ℕ → ℕ → List ℕ → State → State → Option (List ℕ) → Option (List ℕ) → Turn → Type 0
IsTurn limits before after o p left o' p' s s' old new Goes =
    (m : Request) × (IsMessage limits o p m o' p' × ((after ≡ moment_at before m) × IsAnswered limits (moment_at before m) s s' m old new Goes))
IsTurn limits before after o p left o' p' s s' old new (Stops status) =
    ((m : Request) × (IsMessage limits o p m o' p' × IsAnswered limits (moment_at before m) s s' m old new (Stops status)))
    ⊎ ((end : Next) × (IsStop limits o p left end × IsStopped end old new status))

-- ---- turn by turn

-- after these answers the input stands at the offset o with p, the machine in the state s, and the moment `now` is in force
pub record Stands (limits : Limits) (moment : ℕ) (input : List ℕ) (old : Option (List ℕ)) (answered : List Answered) (o : ℕ) (p : List ℕ) (s : State) (now : ℕ) (new : Option (List ℕ)) : Type 0 where
  pub leads : Leads limits 0 input (requests answered) o p
  pub unclosed : IsOpen limits answered
  pub legal : IsLegal limits first_state moment answered
  pub state : stored (state_after limits first_state (history_of limits first_mark moment answered)) ≡ stored s
  pub in_force : moment_after moment answered ≡ now
  pub wrote : Appends old new (wire limits first_mark answered)

-- the same, where the source tells its bytes
abbrev pub StandsOver : Limits → ℕ → Option (List ℕ) → Option (List ℕ) → ℕ → List ℕ → Option (List ℕ) → State → ℕ → Option (List ℕ) → Type 0
StandsOver limits moment left old o held left' s now new =
    (input : List ℕ) → left ≡ Some input → (rest : List ℕ) × ((left' ≡ Some rest)
    × ((answered : List Answered) × Stands limits moment input old answered o (held ++ rest) s now new))
