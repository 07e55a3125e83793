-- A message of the held bytes and those that come.
use Rattle.std.specs.Prelude.{◌≡◌, ◌≢◌, ℕ, ◌+◌, ◌<◌, ◌≤◌, List, [], length, map, take, drop, Option, IsUtf8}
use Rattle.httparse.specs.Spans.{span_bytes, header_bytes}
use Rattle.httparse.specs.declared.spans.HeaderSpan.{HeaderSpan}
use Rattle.httparse.specs.declared.spans.RequestSpans.{RequestSpans}
use Rattle.wf_wire.specs.declared.limits.Limits.{Limits}
use Rattle.wf_wire.specs.declared.message.Head.{Head}
use Rattle.wf_wire.specs.declared.inbox.Next.{Next}
use Rattle.wf_wire.specs.declared.inbox.Next.TheVariants as next
use Rattle.wf_wire.specs.declared.receive.Received.{Received}
use Rattle.wf_wire.specs.declared.receive.Received.TheVariants as received
use Rattle.wf_wire.specs.Request.{Request}
use Rattle.wf_wire.specs.Front.{IsLargeHead}
use Rattle.wf_wire.specs.Framing.{IsWhole, IsBadFrame, IsBadCoding, IsLargeBody, IsUnfinished}
use Rattle.wf_wire.specs.Reading.{pairs, Pending, Kept, IsAtEnd, Tells}

-- the message of a head and a body
abbrev pub request_of : ℕ → Head → List ℕ → Request
request_of o head body = record {
  offset = o;
  method = head.method.items;
  target = head.target.items;
  minor = head.minor;
  fields = pairs head.fields.items;
  body = body;
}

-- the head's parts are those that the spans cover
pub record IsCopy (buf : List ℕ) (room : List HeaderSpan) (spans : RequestSpans) (head : Head) : Type 0 where
  pub method : head.method.items ≡ span_bytes buf spans.method
  pub target : head.target.items ≡ span_bytes buf spans.path
  pub minor : head.minor ≡ spans.version
  pub fields : pairs head.fields.items ≡ map (header_bytes buf) (take spans.headers room)

-- a body was taken out, and the head before it
abbrev pub IsTaken : List ℕ → ℕ → ℕ → List ℕ → List ℕ → Type 0
IsTaken held len size body held' = (body ≡ take size (drop len held)) × (held' ≡ drop (len + size) held)

-- reading one message, its bytes held until all are there
abbrev pub IsReceived : Limits → List ℕ → Option (List ℕ) → ℕ → List ℕ → Option (List ℕ) → ℕ → Received → Type 0
IsReceived limits held left cap held' left' cap' (received.Whole head body) = (length held' + cap' ≤ length held + cap) × IsUtf8 head.target.items
    × Pending held left held' left' (λ p p'. ((o : ℕ) → IsWhole limits p (request_of o head body.items) p') × (length p + (length held' + cap') ≡ length p' + (length held + cap)))
IsReceived limits held left cap held' left' cap' received.Ended = Kept held left cap held' left' cap' × IsUnfinished limits held' × IsAtEnd left cap' left'
IsReceived limits held left cap held' left' cap' received.BadFrame = Kept held left cap held' left' cap' × IsBadFrame limits held'
IsReceived limits held left cap held' left' cap' received.BadCoding = Kept held left cap held' left' cap' × IsBadCoding limits held'
IsReceived limits held left cap held' left' cap' received.LargeHead = Kept held left cap held' left' cap' × IsLargeHead limits held'
IsReceived limits held left cap held' left' cap' received.LargeBody = Kept held left cap held' left' cap' × IsLargeBody limits held'
IsReceived limits held left cap held' left' cap' received.Failed = Kept held left cap held' left' cap' × IsUnfinished limits held'
IsReceived limits held left cap held' left' cap' received.NoMemory = Tells left left'

-- which end it is where no more bytes come
abbrev pub IsEnded : List ℕ → ℕ → ℕ → Next → Type 0
IsEnded held cap o next.LongInput = cap ≡ 0
IsEnded held cap o next.End = (0 < cap) × (held ≡ [])
IsEnded held cap o (next.Cut a) = (0 < cap) × (held ≢ []) × (a ≡ o)
IsEnded held cap o _ = ⊥
