-- Where nothing fails and the input ends after a whole message, all that is served was answered.
use Rattle.std.proofs.Common.{◌≡◌, ◌≢◌, ◌⊎◌, inl, inr, ℕ, List, ◌++◌, Option, refl}
use Rattle.wf_wire.specs.declared.limits.Limits.{Limits}
use Rattle.wf_wire.specs.declared.inbox.Next.{Next}
use Rattle.wf_wire.specs.declared.inbox.Next.TheVariants as next
use Rattle.wf_wire.specs.Items.{IsEnd, IsItems, Leads}
use Rattle.wf_wire.specs.Request.{Request}
use Rattle.wf_rest.specs.Serving.{Answered, IsLegal, requests}
use Rattle.wf_commands.specs.declared.status.Status.{Status}
use Rattle.wf_commands.specs.declared.status.Status.TheVariants.{Done, NoMemory, Usage, ReadFault, WriteFault, BadFrame, Cut, LongInput, TooLarge, Invalid}
use Rattle.wf_commands.specs.Runs.{AreServed, IsClosed, IsComplete, IsOpen, IsOutcome, IsRun, first_state}

-- an input has one list of messages and one end
abbrev pub AreUnique : Type 0
AreUnique = (limits : Limits) (input : List ℕ) (ms ns : List Request) (end end' : Next)
    → IsItems limits input ms end → IsItems limits input ns end' → (ms ≡ ns) × (end ≡ end')

-- messages that lead from its beginning are its first
abbrev pub AreFirst : Type 0
AreFirst = (limits : Limits) (input q : List ℕ) (ns ms : List Request) (o : ℕ) (end : Next)
    → IsItems limits input ms end → Leads limits 0 input ns o q → (rest : List Request) × (ms ≡ ns ++ rest)

module _ (unique : AreUnique) (first : AreFirst) (limits : Limits) (moment : ℕ) (input left : List ℕ) (old new : Option (List ℕ)) (messages : List Request) (items : IsItems limits input messages next.End)
    (answered : List Answered) (o : ℕ) (p : List ℕ) (leads : Leads limits 0 input (requests answered) o p) (legal : IsLegal limits first_state moment answered) where
  -- the input ends as it does, and in no other way
  ends : (end : Next) → IsEnd limits o p end → next.End ≡ end
  ends end is = (unique limits input messages (requests answered) next.End end items (o, p, (leads, is))).1

  all_served : IsClosed limits answered ⊎ (IsOpen limits answered × IsEnd limits o p next.End) → AreServed limits answered messages
  all_served (inl closed) =
      let more = first limits input p (requests answered) messages o next.End items leads in
      inl (more.0, (more.1, closed))
  all_served (inr x) = inr ((unique limits input messages (requests answered) next.End next.End items (o, p, (leads, x.1))).0, x.0)

  complete_at : (status : Status) → status ≢ ReadFault → status ≢ WriteFault → IsOutcome limits moment answered o p left old new status
      → IsComplete limits moment messages old new status
  complete_at Done read write x = inr (answered, (refl, all_served x.1, legal, x.0))
  complete_at NoMemory read write x = inl refl
  complete_at Usage read write x = absurd x
  complete_at Invalid read write x = absurd x
  complete_at ReadFault read write x = absurd (read refl)
  complete_at WriteFault read write x = absurd (write refl)
  complete_at (Cut a) read write x = let e : next.End ≡ next.Cut a = ends (next.Cut a) x.1 in cc
  complete_at LongInput read write x = let e : next.End ≡ next.LongInput = ends next.LongInput x.1 in cc
  complete_at (BadFrame a) read write x = elim x.1 [
    | inl y ↦ let e : next.End ≡ next.BadFrame a = ends (next.BadFrame a) y.0 in cc
    | inr y ↦ let e : next.End ≡ next.BadCoding a = ends (next.BadCoding a) y.0 in cc
  ]
  complete_at (TooLarge a) read write x = elim x.1 [
    | inl y ↦ let e : next.End ≡ next.LargeHead a = ends (next.LargeHead a) y.0 in cc
    | inr y ↦ let e : next.End ≡ next.LargeBody a = ends (next.LargeBody a) y.0 in cc
  ]

pub complete_run : AreUnique → AreFirst → (limits : Limits) (moment : ℕ) (input left : List ℕ) (old new : Option (List ℕ)) (messages : List Request) (status : Status)
    → IsItems limits input messages next.End → status ≢ ReadFault → status ≢ WriteFault → IsRun limits moment input left old new status
    → IsComplete limits moment messages old new status
complete_run unique first limits moment input left old new messages status items read write run =
    complete_at unique first limits moment input left old new messages items run.0 run.1 run.2 run.3.0 run.3.1 status read write run.3.2
