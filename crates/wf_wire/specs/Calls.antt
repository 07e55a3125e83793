-- Objects of memory whose calls fail as they are told to.
use Rattle.std.specs.Prelude.{◌≡◌, ℕ, ◌+◌, ◌-◌, ◌^◌, ◌<◌, ◌≤◌, ◌⊎◌, min, Bool, true, false, ◌==◌, List, ◌++◌, length, take, drop, Result, Ok, Err}
use Rattle.std.specs.List.{list_any}
use Rattle.wf_wire.specs.declared.errors.Failed.{Failed}

-- the numbers of the calls that fail, counted from 1, how many calls were made, and how many failed
pub record Calls : Type 0 where
  pub fails : List ℕ
  pub made : ℕ
  pub faults : ℕ

-- no call was made yet
abbrev pub none_made : List ℕ → Calls
none_made fails = record { fails = fails; made = 0; faults = 0 }

-- whether the next call is a listed one
abbrev pub fails_next : Calls → Bool
fails_next c = list_any (λ n. n == c.made + 1) c.fails

-- counts stand still at the end of their type
abbrev pub one_more : ℕ → ℕ
one_more n = min (n + 1) (2 ^ 64 - 1)

-- after a call that didn't fail
abbrev pub called : Calls → Calls
called c = record { fails = c.fails; made = one_more c.made; faults = c.faults }

-- after one that did
abbrev pub failed : Calls → Calls
failed c = record { fails = c.fails; made = one_more c.made; faults = one_more c.faults }

-- ---- a source

-- the bytes that are left, the most that a read gives, and the calls
pub record MemorySourceState : Type 0 where
  pub left : List ℕ
  pub piece : ℕ
  pub calls : Calls

-- as many of the bytes are given as there are, as a piece has, and as there is room for
abbrev pub IsGiven : MemorySourceState → List ℕ → ℕ → MemorySourceState → Type 0
IsGiven old room n new = (n ≡ min (length room) (min old.piece (length old.left))) × (take n room ≡ take n old.left)
    × (new ≡ record { left = drop n old.left; piece = old.piece; calls = old.calls })

-- the same bytes, with these calls
abbrev pub with_calls : Calls → MemorySourceState → MemorySourceState
with_calls c s = record { left = s.left; piece = s.piece; calls = c }

-- a read gives the next bytes, and fails exactly at the listed calls
abbrev pub IsMemoryRead : MemorySourceState → List ℕ → Result ℕ Failed → MemorySourceState → Type 0
IsMemoryRead old room (Ok n) new = (fails_next old.calls ≡ false) × IsGiven (with_calls (called old.calls) old) room n new
IsMemoryRead old room (Err e) new = (fails_next old.calls ≡ true) × (new ≡ with_calls (failed old.calls) old)

-- ---- a sink

-- the bytes that were taken, the most that can be, and the calls
pub record MemorySinkState : Type 0 where
  pub taken : List ℕ
  pub room : ℕ
  pub calls : Calls

-- a write takes what fits, and fails exactly at the listed calls and where nothing fits
abbrev pub IsMemoryWrite : MemorySinkState → List ℕ → Result ℕ Failed → MemorySinkState → Type 0
IsMemoryWrite old piece (Ok n) new = (fails_next old.calls ≡ false) × (length old.taken < old.room) × (n ≡ min (length piece) (old.room - length old.taken))
    × (new ≡ record { taken = old.taken ++ take n piece; room = old.room; calls = called old.calls })
IsMemoryWrite old piece (Err e) new = ((fails_next old.calls ≡ true) ⊎ (old.room ≤ length old.taken))
    × (new ≡ record { taken = old.taken; room = old.room; calls = failed old.calls })
