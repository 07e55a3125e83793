-- What stands at the front of the bytes of a connection.
use Rattle.std.specs.Prelude.{ℕ, ◌<◌, ◌≤◌, ◌⊎◌, max, ◌==◌, if◌then◌else◌, List, [], ◌∷◌, length, take}
use Rattle.httparse.specs.Grammar.{RequestHead, is_token_byte, is_uri_byte, ReadsRequest, HasNoRequest, NeverHasRequest, EndsInTarget}
use Rattle.wf_wire.specs.declared.limits.Limits.{Limits}
use Rattle.wf_wire.specs.declared.target.Part.{Part}
use Rattle.wf_wire.specs.declared.target.Part.TheVariants.{AtStart, AfterCr, InMethod, InTarget, Elsewhere}

-- no continuation begins with a head, and the bytes don't end inside a target
abbrev pub IsBad : List ℕ → Type 0
IsBad bytes = NeverHasRequest bytes × ¬ (EndsInTarget bytes)

-- the bytes that a head of at most so many may take
abbrev pub window : ℕ → List ℕ → List ℕ
window most bytes = take most bytes

-- these hold no head, and it isn't so that none can come
abbrev pub IsOpen : ℕ → List ℕ → Type 0
IsOpen most bytes = HasNoRequest (window most bytes) × ¬ (IsBad (window most bytes))

-- the bytes are no whole head, but may become one; where a head may have no byte, it is the first byte that is one too many
abbrev pub IsPart : Limits → List ℕ → Type 0
IsPart limits bytes = IsOpen limits.head bytes × (length bytes < max 1 limits.head)

-- too long, or too many fields
abbrev pub IsLargeHead : Limits → List ℕ → Type 0
IsLargeHead limits bytes = (IsOpen limits.head bytes × (max 1 limits.head ≤ length bytes))
    ⊎ ((h : RequestHead) × (rest : List ℕ) × (ReadsRequest (window limits.head bytes) h rest × (limits.fields < length h.fields)))

-- ---- a walk over a request line

-- where a byte leads
abbrev pub step : Part → ℕ → Part
step AtStart b = if b == 13 then AfterCr else (if b == 10 then AtStart else (if is_token_byte b then InMethod else Elsewhere))
step AfterCr b = if b == 10 then AtStart else Elsewhere
step InMethod b = if is_token_byte b then InMethod else (if b == 32 then InTarget else Elsewhere)
step InTarget b = if is_uri_byte b then InTarget else Elsewhere
step Elsewhere b = Elsewhere

-- where these bytes lead
abbrev pub walk : Part → List ℕ → Part
walk p [] = p
walk p (b ∷ bs) = walk (step p b) bs

-- where each walk begins
abbrev pub at_start : Part
at_start = AtStart
