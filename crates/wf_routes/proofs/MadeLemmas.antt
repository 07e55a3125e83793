-- One more path goes into the router.
use Rattle.std.proofs.Common.{◌≡◌, ℕ, ◌+◌, ◌<◌, ◌≤◌, List, [], length, refl, drop_of_length-le, get_or, drop, sym, ap, subst, ◌∙◌}
use Rattle.std.proofs.lemmas.List.{at_drop_more}
use Rattle.matchit.specs.Route.{parse_route}
use Rattle.wf_routes.specs.declared.table.Path.{Path}
use Rattle.wf_routes.specs.Made.{RouterRows, with_path, rows_made, router_rows}
use Rattle.wf_routes.specs.Table.{path_row, paths}

pub one_more : (all : List Path) (whole : RouterRows) (i : ℕ) (d path : Path) (old new : RouterRows) → i < length all → path ≡ get_or all i d
    → new ≡ with_path (parse_route (path_row path).pattern) path old → rows_made (drop i all) old ≡ whole → rows_made (drop (i + 1) all) new ≡ whole
one_more all whole i d path old new within item made before =
    let OfPath : Path → Type 0 = λ x. new ≡ with_path (parse_route (path_row x).pattern) x old in
    let next : rows_made (drop i all) old ≡ rows_made (drop (i + 1) all) (with_path (parse_route (path_row (get_or all i d)).pattern) (get_or all i d) old) =
    at_drop_more (λ (rest : List Path). rows_made rest old) all i d within in
    ap (rows_made (drop (i + 1) all)) (subst OfPath item made) ∙ (sym next ∙ before)

-- no paths yet
pub none_yet : rows_made (drop 0 paths) [] ≡ router_rows
unfolding router_rows
none_yet = refl

-- no paths left
pub none_left : (i : ℕ) (rows : RouterRows) → length paths ≤ i → rows_made (drop i paths) rows ≡ router_rows → rows ≡ router_rows
none_left i rows h made = ap (λ (rest : List Path). rows_made rest rows) (sym (drop_of_length-le paths {i = i} h)) ∙ made
