-- One more pair of a query is read.
use Rattle.std.proofs.Common.{◌≡◌, ℕ, List, [], ◌∷◌, ◌++◌, map, ap}
use Rattle.wf_routes.specs.Queries.{pair_read, pair_shown}
use Rattle.wf_routes.specs.declared.query.Pair.{Pair}

pub one_more : (pairs : List Pair) (pair : Pair) (raw : List ℕ × List ℕ) (rest : List (List ℕ × List ℕ)) → pair_shown pair ≡ pair_read raw
    → map pair_shown (pairs ++ (pair ∷ [])) ++ map pair_read rest ≡ map pair_shown pairs ++ map pair_read (raw ∷ rest)
one_more [] pair raw rest same = ap (λ shown. shown ∷ map pair_read rest) same
one_more (other ∷ pairs) pair raw rest same = ap (λ later. pair_shown other ∷ later) (one_more pairs pair raw rest same)
