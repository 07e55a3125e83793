-- Which path of the table a request's path is.
use Rattle.std.specs.Prelude.{ℕ, List, [], ◌∷◌, Bool, true, false, not, ◌==◌, if◌then◌else◌, Option, find, bytes_eq}
use Rattle.std.specs.List.{slice_split}
use Rattle.std.specs.Cmp.Lexicographic.{pointwise}
use Rattle.wf_routes.specs.declared.table.Path.{Path}
use Rattle.wf_routes.specs.Table.{path_row, paths}

-- `b'/'`
abbrev pub slash : ℕ
slash = 47

-- `b'{'`
abbrev pub open_brace : ℕ
open_brace = 123

-- what stands between the slashes of a text
abbrev pub segments : List ℕ → List (List ℕ)
segments text = slice_split (λ b. b == slash) text

-- a segment of a pattern is a parameter, as `{name}`
abbrev pub is_parameter : List ℕ → Bool
is_parameter [] = false
is_parameter (b ∷ name) = b == open_brace

-- a text has no bytes
abbrev pub is_empty : List ℕ → Bool
is_empty [] = true
is_empty (b ∷ text) = false

-- a parameter stands for any segment that is not empty, and any other segment of a pattern for itself
abbrev pub stands_for : List ℕ → List ℕ → Bool
stands_for piece segment =
    if is_parameter piece then not (is_empty segment) else bytes_eq piece segment

-- a pattern fits a path of as many segments, where each of its segments stands for the path's
abbrev pub fits : List ℕ → List ℕ → Bool
fits pattern path = pointwise stands_for (segments pattern) (segments path)

-- the path of the table that a path has: the first whose pattern fits
unfoldable pub path_of : List ℕ → Option Path
path_of text = find (λ (path : Path). fits (path_row path).pattern text) paths
