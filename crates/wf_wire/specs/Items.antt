-- The messages of an input, and how it ends.
use Rattle.std.specs.Prelude.{◌≡◌, ◌≢◌, ℕ, ◌+◌, ◌-◌, ◌<◌, ◌≤◌, List, [], ◌∷◌, ◌++◌, length, take, Option, Some}
use Rattle.wf_wire.specs.declared.limits.Limits.{Limits}
use Rattle.wf_wire.specs.declared.inbox.Next.{Next}
use Rattle.wf_wire.specs.declared.inbox.Next.TheVariants as next
use Rattle.wf_wire.specs.Request.{Request}
use Rattle.wf_wire.specs.Front.{IsLargeHead}
use Rattle.wf_wire.specs.Framing.{IsWhole, IsBadFrame, IsBadCoding, IsLargeBody, IsUnfinished}

-- of the bytes p that stand at the offset o, those that the limit of input lets be seen
abbrev pub seen : Limits → ℕ → List ℕ → List ℕ
seen limits o p = take (limits.input - o) p

-- the bytes p at the offset o begin with this message, and at o' stand p'
abbrev pub IsMessage : Limits → ℕ → List ℕ → Request → ℕ → List ℕ → Type 0
IsMessage limits o p m o' p' = (m.offset ≡ o) × IsWhole limits p m p' × (o' + length p' ≡ o + length p) × (o' ≤ limits.input)

-- the input, of which p stand at the offset o, ends there, and this is how
abbrev pub IsEnd : Limits → ℕ → List ℕ → Next → Type 0
IsEnd limits o p (next.Message m) = ⊥
IsEnd limits o p next.End = (p ≡ []) × (o < limits.input)
IsEnd limits o p (next.Cut a) = (a ≡ o) × (p ≢ []) × IsUnfinished limits p × (o + length p < limits.input)
IsEnd limits o p (next.BadFrame a) = (a ≡ o) × IsBadFrame limits (seen limits o p)
IsEnd limits o p (next.BadCoding a) = (a ≡ o) × IsBadCoding limits (seen limits o p)
IsEnd limits o p (next.LargeHead a) = (a ≡ o) × IsLargeHead limits (seen limits o p)
IsEnd limits o p (next.LargeBody a) = (a ≡ o) × IsLargeBody limits (seen limits o p)
IsEnd limits o p next.LongInput = (limits.input ≤ o + length p) × IsUnfinished limits (seen limits o p)
IsEnd limits o p next.ReadFault = ⊥
IsEnd limits o p next.NoMemory = ⊥

-- from p at the offset o, these messages lead to q at o'
abbrev pub Leads : Limits → ℕ → List ℕ → List Request → ℕ → List ℕ → Type 0
Leads limits o p [] o' q = (o ≡ o') × (p ≡ q)
Leads limits o p (m ∷ ms) o' q = (o1 : ℕ) × (p1 : List ℕ) × (IsMessage limits o p m o1 p1 × Leads limits o1 p1 ms o' q)

-- the input is these messages, and then this end
abbrev pub IsItems : Limits → List ℕ → List Request → Next → Type 0
IsItems limits input ms end = (o : ℕ) × (q : List ℕ) × (Leads limits 0 input ms o q × IsEnd limits o q end)

-- ---- reading the input

-- reading stops at the offset o, where p stand, of which the source still has `left`: at an end of the input, or at a failed read before more than a part of a message was taken
abbrev pub IsStop : Limits → ℕ → List ℕ → List ℕ → Next → Type 0
IsStop limits o p left (next.Message m) = ⊥
IsStop limits o p left next.ReadFault = (taken : List ℕ) × ((p ≡ taken ++ left) × IsUnfinished limits taken)
IsStop limits o p left next.NoMemory = Unit {0}
IsStop limits o p left end = IsEnd limits o p end

-- the answer at the offset o, where p stand, of which the source then has `left`; after a message, p' stand at o'
abbrev pub IsNext : Limits → ℕ → List ℕ → List ℕ → Next → ℕ → List ℕ → Type 0
IsNext limits o p left (next.Message m) o' p' = IsMessage limits o p m o' p'
IsNext limits o p left end o' p' = IsStop limits o p left end

-- these messages of the input were read, and then reading stopped
abbrev pub IsReading : Limits → List ℕ → List Request → List ℕ → Next → Type 0
IsReading limits input ms left end = (o : ℕ) × (q : List ℕ) × (Leads limits 0 input ms o q × IsStop limits o q left end)

-- where the source tells what it has left, so was all of it read
abbrev pub AllRead : Limits → Option (List ℕ) → Option (List ℕ) → List Request → Next → Type 0
AllRead limits left left' ms end = (input : List ℕ) → left ≡ Some input → (rest : List ℕ) × (left' ≡ Some rest) × IsReading limits input ms rest end

-- where the source tells what it has left: P of what was pending, of what the source then has left, and of what is pending then
abbrev pub Coming : List ℕ → Option (List ℕ) → List ℕ → Option (List ℕ) → (List ℕ → List ℕ → List ℕ → Type 0) → Type 0
Coming held left held' left' P = (l : List ℕ) → left ≡ Some l → (rest : List ℕ) × (left' ≡ Some rest) × P (held ++ l) rest (held' ++ rest)

-- P holds where the answer is a message
abbrev pub OnMessage : Next → Type 0 → Type 0
OnMessage (next.Message m) P = P
OnMessage _ P = Unit {0}
