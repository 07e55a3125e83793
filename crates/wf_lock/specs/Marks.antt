-- Which entries of a history are marked, and where the last of them stands.
use Rattle.std.specs.Prelude.{◌≡◌, ℕ, ◌+◌, Bool, true, if◌then◌else◌, List}
use mathlib.Core.Option.{some}
use lib.ListN.{get_elem?}
use Rattle.std.specs.List.{fold}
use Rattle.wf_lock.specs.Places.{Has}

module _ {E : Type 0} (marked : E → Bool) where
  -- the count of entries, and the place of the last marked one
  abbrev pub tally : ℕ × ℕ → E → ℕ × ℕ
  tally s e = (s.0 + 1, if marked e then s.0 + 1 else s.1)

  -- the place of the last marked entry, or 0
  abbrev pub last_marked : List E → ℕ
  last_marked log = (fold tally (0, 0) log).1

  -- each marked entry's place is one of these
  abbrev pub HasMarked : List E → List ℕ → Type 0
  HasMarked log own = (k : ℕ) (e : E) → get_elem? log k ≡ some e → marked e ≡ true → Has (k + 1) own
