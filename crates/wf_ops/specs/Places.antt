-- Attempts by their places.
use Rattle.std.specs.Prelude.{ℕ, zero, suc, Bool, false, List, [], ◌∷◌}
use Rattle.wf_machine.specs.State.{Attempt}

-- the attempt at that place passes, told by itself and by those after it; where there is none, none does
abbrev pub passes_at : (Attempt → List Attempt → Bool) → List Attempt → ℕ → Bool
passes_at test [] place = false
passes_at test (a ∷ rest) zero = test a rest
passes_at test (a ∷ rest) (suc place) = passes_at test rest place
