-- Tests of all items.
use Rattle.std.proofs.Common.{◌≡◌, refl, ℕ, ◌<◌, Bool, false, List, length, map, drop, get_or}
use Rattle.std.specs.List.{list_all}
use Rattle.std.proofs.Math.Seq.{drop-cons}

-- one item fails, so not all pass
pub all_fails : {A : Type 0} (p : List ℕ → Bool) (f : A → List ℕ) (xs : List A) (i : ℕ) (d : A) → i < length xs → p (f (get_or xs i d)) ≡ false → list_all p (map f (drop i xs)) ≡ false
all_fails p f xs i d within fails = rw (drop-cons xs i d, fails) refl
