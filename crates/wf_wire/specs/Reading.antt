-- Bytes that go from a source to those that are held, and what is found there.
use Rattle.std.specs.Prelude.{◌≡◌, ℕ, ◌+◌, ◌<◌, ◌≤◌, ◌⊎◌, ◌==◌, if◌then◌else◌, List, [], ◌∷◌, ◌++◌, length, map, Option, Some, None}
use Rattle.std.specs.Borrow.{Bor}
use Rattle.httparse.specs.Grammar.{RequestHead, ReadsRequest, HasNoRequest}
use Rattle.httparse.specs.Spans.{IsRequestAt, IsRequestWithin}
use Rattle.httparse.specs.declared.spans.HeaderSpan.{HeaderSpan}
use Rattle.wf_wire.specs.declared.limits.Limits.{Limits}
use Rattle.wf_wire.specs.declared.fields.Field.{Field}
use Rattle.wf_wire.specs.declared.head.HeadLook.{HeadLook}
use Rattle.wf_wire.specs.declared.head.HeadLook.TheVariants as look
use Rattle.wf_wire.specs.declared.reader.Filled.{Filled}
use Rattle.wf_wire.specs.declared.reader.Filled.TheVariants as fill
use Rattle.wf_wire.specs.declared.reader.HeadWatch.{HeadWatch}
use Rattle.wf_wire.specs.declared.reader.HeadWatch.TheVariants as watch
use Rattle.wf_wire.specs.declared.reader.Got.{Got}
use Rattle.wf_wire.specs.declared.reader.Got.TheVariants as got
use Rattle.wf_wire.specs.Fields.{Found, absent, one}
use Rattle.wf_wire.specs.Front.{IsBad, window, IsPart, IsLargeHead}

-- ---- fields

-- name and value
abbrev pub pair : Field → List ℕ × List ℕ
pair f = (f.name.items, f.value.items)

-- the names and values of these
abbrev pub pairs : List Field → List (List ℕ × List ℕ)
pairs fields = map pair fields

-- the value that was found, as a list
abbrev pub one_of : Option (Bor (List ℕ)) → List (List ℕ)
one_of None = []
one_of (Some v) = v.now ∷ []

-- what a look finds that found this value, or none
abbrev pub look_found : Option (Bor (List ℕ)) → Found
look_found None = absent
look_found (Some v) = one v.now

-- the first of the values, or none
abbrev pub IsFirst : List (List ℕ) → Option (Bor (List ℕ)) → Type 0
IsFirst vs None = vs ≡ []
IsFirst vs (Some v) = (more : List (List ℕ)) × (vs ≡ v.now ∷ more)

-- digits without the zeros in front
abbrev pub significant : List ℕ → List ℕ
significant [] = []
significant (b ∷ bs) = if b == 48 then significant bs else b ∷ bs

-- ---- a head

-- what a look at the first bytes finds, where a head may have so many fields
abbrev pub IsLook : ℕ → List ℕ → List HeaderSpan → HeadLook → Type 0
IsLook most buf room (look.Head spans) = IsRequestWithin buf room spans × ((h : RequestHead) × (IsRequestAt buf room spans h × (length h.fields ≤ most)))
IsLook most buf room look.Open = HasNoRequest buf × ¬ (IsBad buf)
IsLook most buf room look.Bad = IsBad buf
IsLook most buf room look.Large = (h : RequestHead) × (rest : List ℕ) × (ReadsRequest buf h rest × (most < length h.fields))

-- ---- reading

-- where the source tells what it has left, P of what was pending and of what is
abbrev pub Pending : List ℕ → Option (List ℕ) → List ℕ → Option (List ℕ) → (List ℕ → List ℕ → Type 0) → Type 0
Pending held left held' left' P = (l : List ℕ) → left ≡ Some l → (rest : List ℕ) × (left' ≡ Some rest) × P (held ++ l) (held' ++ rest)

-- bytes went from the source to the held ones, as many as the cap fell by
pub record Kept (held : List ℕ) (left : Option (List ℕ)) (cap : ℕ) (held' : List ℕ) (left' : Option (List ℕ)) (cap' : ℕ) : Type 0 where
  pub size : length held' + cap' ≡ length held + cap
  pub grown : (more : List ℕ) × (held' ≡ held ++ more)
  pub same : Pending held left held' left' (λ old new. new ≡ old)

-- no byte may come any more, or none is left of a source that tells its bytes
abbrev pub IsAtEnd : Option (List ℕ) → ℕ → Option (List ℕ) → Type 0
IsAtEnd left cap' left' = (cap' ≡ 0) ⊎ ((l : List ℕ) → left ≡ Some l → left' ≡ Some [])

-- a source that tells its bytes goes on to do so
abbrev pub Tells : Option (List ℕ) → Option (List ℕ) → Type 0
Tells left left' = (l : List ℕ) → left ≡ Some l → (rest : List ℕ) × (left' ≡ Some rest)

-- one read
abbrev pub IsFill : List ℕ → Option (List ℕ) → ℕ → List ℕ → Option (List ℕ) → ℕ → Filled → Type 0
IsFill held left cap held' left' cap' fill.More = (length held < length held') × Kept held left cap held' left' cap'
IsFill held left cap held' left' cap' fill.AtEnd = (held' ≡ held) × Kept held left cap held' left' cap' × IsAtEnd left cap' left'
IsFill held left cap held' left' cap' fill.Failed = (held' ≡ held) × Kept held left cap held' left' cap'
IsFill held left cap held' left' cap' fill.NoMemory = Tells left left'

-- reading up to a head
abbrev pub IsWatch : Limits → List ℕ → Option (List ℕ) → ℕ → List ℕ → Option (List ℕ) → ℕ → List HeaderSpan → HeadWatch → Type 0
IsWatch limits held left cap held' left' cap' room (watch.Head spans) = Kept held left cap held' left' cap' × IsRequestWithin (window limits.head held') room spans
    × ((h : RequestHead) × (IsRequestAt (window limits.head held') room spans h × (length h.fields ≤ limits.fields)))
IsWatch limits held left cap held' left' cap' room watch.Bad = Kept held left cap held' left' cap' × IsBad (window limits.head held')
IsWatch limits held left cap held' left' cap' room watch.Large = Kept held left cap held' left' cap' × IsLargeHead limits held'
IsWatch limits held left cap held' left' cap' room watch.Ended = Kept held left cap held' left' cap' × IsPart limits held' × IsAtEnd left cap' left'
IsWatch limits held left cap held' left' cap' room watch.Failed = Kept held left cap held' left' cap' × IsPart limits held'
IsWatch limits held left cap held' left' cap' room watch.NoMemory = Tells left left'

-- reading up to so many bytes
abbrev pub IsGot : List ℕ → Option (List ℕ) → ℕ → ℕ → List ℕ → Option (List ℕ) → ℕ → Got → Type 0
IsGot held left cap need held' left' cap' got.All = Kept held left cap held' left' cap' × (need ≤ length held')
IsGot held left cap need held' left' cap' got.Ended = Kept held left cap held' left' cap' × (length held' < need) × IsAtEnd left cap' left'
IsGot held left cap need held' left' cap' got.Failed = Kept held left cap held' left' cap' × (length held' < need)
IsGot held left cap need held' left' cap' got.NoMemory = Tells left left'
