-- A message, a part of one, or a fault at the front of bytes.
use Rattle.std.specs.Prelude.{◌≡◌, ℕ, ◌<◌, ◌≤◌, ◌⊎◌, List, ◌++◌, length, map}
use Rattle.httparse.specs.Grammar.{RequestHead, ReadsRequest, print_request}
use Rattle.httparse.specs.Spans.{name_and_value}
use Rattle.wf_wire.specs.declared.limits.Limits.{Limits}
use Rattle.wf_wire.specs.declared.framing.Frame.{Frame}
use Rattle.wf_wire.specs.declared.framing.Frame.TheVariants as frame
use Rattle.wf_wire.specs.Fields.{framing}
use Rattle.wf_wire.specs.Request.{Request}
use Rattle.wf_wire.specs.Front.{window, IsBad, IsPart}

-- p is a head that keeps the limits, and then rest
abbrev pub IsHead : Limits → List ℕ → RequestHead → List ℕ → Type 0
IsHead limits p h rest = ReadsRequest p h rest × (length (print_request h) ≤ limits.head) × (length h.fields ≤ limits.fields)

-- what a head says of the body
abbrev pub frame_of_head : Limits → RequestHead → Frame
frame_of_head limits h = framing limits.body h.minor (map name_and_value h.fields)

-- p is a head that says this of the body, and then rest
abbrev pub Says : Limits → List ℕ → Frame → List ℕ → Type 0
Says limits p f rest = (h : RequestHead) × (IsHead limits p h rest × (frame_of_head limits h ≡ f))

-- the parts of the message are those of the head, with the blanks around values left out
pub record IsOf (h : RequestHead) (m : Request) : Type 0 where
  pub method : m.method ≡ h.method
  pub target : m.target ≡ h.target
  pub minor : m.minor ≡ h.minor
  pub fields : m.fields ≡ map name_and_value h.fields

-- p is the head and the body of this message, and then rest
abbrev pub IsWhole : Limits → List ℕ → Request → List ℕ → Type 0
IsWhole limits p m rest = (h : RequestHead) × (IsHead limits p h (m.body ++ rest) × IsOf h m × (frame_of_head limits h ≡ frame.Sized (length m.body)))

-- no head can come, or one came whose fields don't tell where the body ends
abbrev pub IsBadFrame : Limits → List ℕ → Type 0
IsBadFrame limits p = IsBad (window limits.head p) ⊎ ((rest : List ℕ) × Says limits p frame.BadFrame rest)

-- a body in a coding that isn't read
abbrev pub IsBadCoding : Limits → List ℕ → Type 0
IsBadCoding limits p = (rest : List ℕ) × Says limits p frame.BadCoding rest

-- a body above the limit
abbrev pub IsLargeBody : Limits → List ℕ → Type 0
IsLargeBody limits p = (rest : List ℕ) × Says limits p frame.LargeBody rest

-- no whole message, and none of the faults: a part of a head, or a head with a part of its body
abbrev pub IsUnfinished : Limits → List ℕ → Type 0
IsUnfinished limits p = IsPart limits p ⊎ ((n : ℕ) × (rest : List ℕ) × (Says limits p (frame.Sized n) rest × (length rest < n)))
