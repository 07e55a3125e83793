-- A queue as contracts see it, and where the one of a name stands.
use Rattle.std.specs.Prelude.{◌≡◌, ℕ, zero, suc, true, false, List, [], ◌∷◌, bytes_eq}
use Rattle.wf_queue.specs.declared.queue.Queue.{Queue}
use Rattle.wf_queue.specs.Waiting.{NamedQueue}

abbrev pub seen : Queue → NamedQueue
seen queue = record { name = queue.name.items; entries = queue.waiting.entries; spare = queue.waiting.spare }

-- the first queue of that name stands at that place
abbrev pub IsFirst : List ℕ → List Queue → ℕ → Type 0
IsFirst name [] place = ⊥
IsFirst name (queue ∷ rest) zero = bytes_eq queue.name.items name ≡ true
IsFirst name (queue ∷ rest) (suc place) = (bytes_eq queue.name.items name ≡ false) × IsFirst name rest place
