use Rattle.std.proofs.Common.{◌≡◌, ◌++◌, map}
use Rattle.form_urlencoded.specs.Parse.{raw_pairs_left}
use Rattle.wf_routes.specs.Queries.{pair_read, pair_shown, query_pairs}
use Rattle.wf_routes.proofs.query.pairs_of.Given as goal

-- the pairs so far and those still to be read are the query's
abbrev pub invariant-loop-key : goal.invariant-loop-key
invariant-loop-key l =
    map pair_shown l.pairs.items ++ map pair_read (raw_pairs_left l.key-iterator) ≡ query_pairs l.query
