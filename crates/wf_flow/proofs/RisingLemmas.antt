-- Lists of attempts whose numbers rise.
use Rattle.std.proofs.Common.{◌≡◌, ℕ, ◌+◌, ◌≤◌, List, [], ◌∷◌, ◌++◌, map, ap, subst}
use Rattle.wf_machine.specs.State.{Attempt, RisingFrom, RisingTo}

pub rising_to-append : (low : ℕ) (xs : List Attempt) (a : Attempt) → RisingTo low a.number.0 xs → RisingFrom low (xs ++ a ∷ [])
rising_to-append low [] a below = (below, tt)
rising_to-append low (x ∷ xs) a below = (below.0, rising_to-append (x.number.0 + 1) xs a below.1)

-- a change that keeps each number
pub rising_map : (change : Attempt → Attempt) → ((a : Attempt) → a.number ≡ (change a).number) → (low : ℕ) (xs : List Attempt) → RisingFrom low xs → RisingFrom low (map change xs)
rising_map change keeps low [] rising = tt
rising_map change keeps low (x ∷ xs) rising =
    let same = ap (λ n. n.0) (keeps x) in (
      subst (λ n. low ≤ n) same rising.0,
      subst (λ n. RisingFrom (n + 1) (map change xs)) same (rising_map change keeps (x.number.0 + 1) xs rising.1),
    )
