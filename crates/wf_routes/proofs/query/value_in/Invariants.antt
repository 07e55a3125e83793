use Rattle.std.proofs.Common.{◌≡◌, drop, map}
use Rattle.wf_routes.specs.Queries.{pair_shown, query_value}
use Rattle.wf_routes.proofs.query.value_in.Given as goal

-- the pairs still to be looked at decide
abbrev pub invariant-loop-pair : goal.invariant-loop-pair
invariant-loop-pair l =
    query_value l.key (map pair_shown l.pairs) ≡ query_value l.key (map pair_shown (drop l.pair-index l.pairs))
