-- Ends of words.
use Rattle.std.proofs.Common.{◌≡◌, ℕ, ◌+◌, ◌<◌, false, List, length, drop, refl, sym, add-one}
use Rattle.std.specs.Prelude.{◌||◌}
use Rattle.std.proofs.Math.Seq.{drop-cons}
use Rattle.wf_defs.specs.Names.{is_turn, ends_in_turn}

ends_in_turn-drop : (w : List ℕ) (i : ℕ) → i < length w → ends_in_turn (drop i w) ≡ (is_turn (drop i w) || ends_in_turn (drop (i + 1) w))
ends_in_turn-drop w i h = rw (drop-cons w i 0, add-one) refl

-- where no turn begins at i, one begins after it or none does
pub ends_in_turn-later : (w : List ℕ) (i : ℕ) → i < length w → is_turn (drop i w) ≡ false → ends_in_turn (drop (i + 1) w) ≡ ends_in_turn (drop i w)
ends_in_turn-later w i h none =
    let step = ends_in_turn-drop w i h in
    sym (rw none at step)
