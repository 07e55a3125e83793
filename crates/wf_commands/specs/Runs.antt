-- What a run over an input of requests leaves: the bytes that it wrote, and the status that it ended with.
use Rattle.std.specs.Prelude.{◌≡◌, ◌⊎◌, ℕ, min, true, false, List, [], ◌∷◌, ◌++◌, Option, Some}
use Rattle.std.specs.List.{list_any}
use Rattle.wf_wire.specs.declared.limits.Limits.{Limits}
use Rattle.wf_wire.specs.declared.inbox.Next.{Next}
use Rattle.wf_wire.specs.declared.inbox.Next.TheVariants as next
use Rattle.wf_wire.specs.Items.{IsMessage, IsEnd, IsStop, Leads, IsItems}
use Rattle.wf_wire.specs.Request.{Request}
use Rattle.wf_machine.specs.declared.calling.Reply.{Reply}
use Rattle.wf_rest.specs.declared.faulting.HttpFault.TheVariants as fault
use Rattle.wf_rest.specs.Moments.{last_moment}
use Rattle.wf_machine.specs.State.{State, new_state}
use Rattle.wf_rest.specs.Responses.{printed_fault}
use Rattle.wf_rest.specs.Serving.{Answered, IsLegal, answer_bytes, is_last, requests, wire}
use Rattle.wf_commands.specs.declared.status.Status.{Status}
use Rattle.wf_commands.specs.declared.status.Status.TheVariants.{Done, NoMemory, Usage, ReadFault, WriteFault, BadFrame, Cut, LongInput, TooLarge, Invalid}
use Rattle.wf_commands.specs.Standard.{IsStandard}
use Rattle.wf_commands.specs.Written.{Appends, AppendsPart}

-- ---- ends

-- what is written where the input ends so: the fault, after which the connection ends
abbrev pub end_bytes : Next → List ℕ
end_bytes (next.BadFrame o) = printed_fault fault.BadFrame true false
end_bytes (next.BadCoding o) = printed_fault fault.Coding true false
end_bytes (next.LargeHead o) = printed_fault fault.HeadTooLarge true false
end_bytes (next.LargeBody o) = printed_fault fault.BodyTooLarge true false
end_bytes _ = []

-- it is an end of the input, or why it can't be read
abbrev pub IsNoMessage : Next → Type 0
IsNoMessage (next.Message m) = ⊥
IsNoMessage _ = Unit {0}

-- ---- moments

-- the moment is the clock's first reading, where the clock tells it, and no later than the last moment
abbrev pub IsFirstMoment : Option (ℕ → ℕ) → ℕ → Type 0
IsFirstMoment told moment = (readings : ℕ → ℕ) → told ≡ Some readings → moment ≡ min (readings 0) last_moment

-- ---- a run

-- the mark of the store that a run begins with
abbrev pub first_mark : ℕ
first_mark = 1

-- the store that a run begins with: a new one
abbrev pub first_state : State
first_state = new_state first_mark

-- no answer so far is the last one of a run
abbrev pub IsOpen : Limits → List Answered → Type 0
IsOpen limits answered = list_any (is_last limits first_mark) answered ≡ false

-- the answer at the end, and none before it, is the last one of a run
pub record IsClosed (limits : Limits) (answered : List Answered) : Type 0 where
  pub before : List Answered
  pub end : Answered
  pub are : answered ≡ before ++ end ∷ []
  pub unclosed : IsOpen limits before
  pub closes : is_last limits first_mark end ≡ true

-- these bytes are those of the next answer: to a request that stands next in the input, or to the input's end
abbrev pub ComesNext : Limits → ℕ → List Answered → ℕ → List ℕ → List ℕ → Type 0
ComesNext limits moment answered o p bytes =
    ((m : Request) × (reply : Option Reply) × (o' : ℕ) × (p' : List ℕ) × (IsMessage limits o p m o' p'
    × IsLegal limits first_state moment (answered ++ record { request = m; reply = reply } ∷ [])
    × (bytes ≡ answer_bytes limits first_mark m reply)))
    ⊎ ((end : Next) × (IsEnd limits o p end × (bytes ≡ end_bytes end)))

-- after these answers the input stands at the offset o with p, of which the source still has `left`: what the sink
-- took, where the run ended with this status
abbrev pub IsOutcome : Limits → ℕ → List Answered → ℕ → List ℕ → List ℕ → Option (List ℕ) → Option (List ℕ) → Status → Type 0
IsOutcome limits moment answered o p left old new Done =
    Appends old new (wire limits first_mark answered) × (IsClosed limits answered ⊎ (IsOpen limits answered × IsEnd limits o p next.End))
IsOutcome limits moment answered o p left old new (Cut a) =
    IsOpen limits answered × IsEnd limits o p (next.Cut a) × Appends old new (wire limits first_mark answered)
IsOutcome limits moment answered o p left old new LongInput =
    IsOpen limits answered × IsEnd limits o p next.LongInput × Appends old new (wire limits first_mark answered)
IsOutcome limits moment answered o p left old new (BadFrame a) =
    IsOpen limits answered
    × ((IsEnd limits o p (next.BadFrame a) × Appends old new (wire limits first_mark answered ++ end_bytes (next.BadFrame a)))
    ⊎ (IsEnd limits o p (next.BadCoding a) × Appends old new (wire limits first_mark answered ++ end_bytes (next.BadCoding a))))
IsOutcome limits moment answered o p left old new (TooLarge a) =
    IsOpen limits answered
    × ((IsEnd limits o p (next.LargeHead a) × Appends old new (wire limits first_mark answered ++ end_bytes (next.LargeHead a)))
    ⊎ (IsEnd limits o p (next.LargeBody a) × Appends old new (wire limits first_mark answered ++ end_bytes (next.LargeBody a))))
IsOutcome limits moment answered o p left old new ReadFault =
    IsOpen limits answered × IsStop limits o p left next.ReadFault × Appends old new (wire limits first_mark answered)
IsOutcome limits moment answered o p left old new WriteFault =
    IsOpen limits answered × ((bytes : List ℕ) × (ComesNext limits moment answered o p bytes × AppendsPart old new (wire limits first_mark answered) bytes))
IsOutcome limits moment answered o p left old new NoMemory =
    IsOpen limits answered × Appends old new (wire limits first_mark answered)
IsOutcome limits moment answered o p left old new Usage = ⊥
IsOutcome limits moment answered o p left old new Invalid = ⊥

-- the first requests of the input were answered, each call by the machine's reply in one history of them all, and
-- the run ended with this status
abbrev pub IsRun : Limits → ℕ → List ℕ → List ℕ → Option (List ℕ) → Option (List ℕ) → Status → Type 0
IsRun limits moment input left old new status =
    (answered : List Answered) × (o : ℕ) × (p : List ℕ) × (Leads limits 0 input (requests answered) o p
    × IsLegal limits first_state moment answered
    × IsOutcome limits moment answered o p left old new status)

-- the same, where the source tells its bytes
abbrev pub RunsOver : Limits → ℕ → Option (List ℕ) → Option (List ℕ) → Option (List ℕ) → Option (List ℕ) → Status → Type 0
RunsOver limits moment left left' old new status =
    (input : List ℕ) → left ≡ Some input → (rest : List ℕ) × ((left' ≡ Some rest) × IsRun limits moment input rest old new status)

-- the requests up to the one whose answer is the last were answered, or all of them
abbrev pub AreServed : Limits → List Answered → List Request → Type 0
AreServed limits answered messages =
    ((rest : List Request) × ((messages ≡ requests answered ++ rest) × IsClosed limits answered))
    ⊎ ((messages ≡ requests answered) × IsOpen limits answered)

-- the requests were answered up to the last answer, and their answers written, or memory was wanting
abbrev pub IsComplete : Limits → ℕ → List Request → Option (List ℕ) → Option (List ℕ) → Status → Type 0
IsComplete limits moment messages old new status =
    (status ≡ NoMemory)
    ⊎ ((answered : List Answered) × ((status ≡ Done) × AreServed limits answered messages
    × IsLegal limits first_state moment answered × Appends old new (wire limits first_mark answered)))

-- ---- the standard limits

-- under the standard limits, with the clock's moment in force until a request states one
abbrev pub RunsFromClock : Option (ℕ → ℕ) → Option (List ℕ) → Option (List ℕ) → Option (List ℕ) → Option (List ℕ) → Status → Type 0
RunsFromClock told left left' old new status =
    (limits : Limits) × (moment : ℕ) × (IsStandard limits × IsFirstMoment told moment × RunsOver limits moment left left' old new status)

-- the same, where the input is these messages and then ends
abbrev pub CompletesFromClock : Option (ℕ → ℕ) → Option (List ℕ) → Option (List ℕ) → Option (List ℕ) → Status → Type 0
CompletesFromClock told left old new status =
    (limits : Limits) × (moment : ℕ) × (IsStandard limits × IsFirstMoment told moment
    × ((input : List ℕ) (messages : List Request) → left ≡ Some input → IsItems limits input messages next.End
    → IsComplete limits moment messages old new status))
