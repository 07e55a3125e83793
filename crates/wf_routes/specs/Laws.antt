-- What holds of the table.
use Rattle.std.specs.Prelude.{ℕ, List, [], ◌∷◌, Bool, true, not, ◌&&◌, bytes_eq, if◌then◌else◌}
use Rattle.std.specs.Cmp.Lexicographic.{slice_cmp}
use Rattle.std.specs.Ordering.{nat_cmp, is_lt}
use Rattle.wf_routes.specs.declared.table.Call.{Call}
use Rattle.wf_routes.specs.declared.table.Path.{Path}
use Rattle.wf_routes.specs.Paths.{segments, is_parameter}
use Rattle.wf_routes.specs.Table.{method_text, path_row}

-- at the first segment where two patterns differ, the first pattern has no parameter
abbrev pub goes_first : List (List ℕ) → List (List ℕ) → Bool
goes_first [] others = true
goes_first (piece ∷ pieces) [] = true
goes_first (piece ∷ pieces) (other ∷ others) =
    if bytes_eq piece other then goes_first pieces others else not (is_parameter piece)

-- a path goes first of each of these
abbrev pub goes_first_of : Path → List Path → Bool
goes_first_of path [] = true
goes_first_of path (other ∷ others) =
    goes_first (segments (path_row path).pattern) (segments (path_row other).pattern) && goes_first_of path others

-- each path goes first of those behind it
abbrev pub each_goes_first : List Path → Bool
each_goes_first [] = true
each_goes_first (path ∷ later) = goes_first_of path later && each_goes_first later

-- the names of the methods rise
abbrev pub methods_rise : List Call → Bool
methods_rise [] = true
methods_rise (call ∷ []) = true
methods_rise (call ∷ next ∷ calls) =
    is_lt (slice_cmp nat_cmp (method_text call.0) (method_text next.0)) && methods_rise (next ∷ calls)
