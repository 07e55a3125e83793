-- The path that matchit finds over the rows of the table is the first whose segments fit.
use Rattle.std.proofs.Common.{◌≡◌, ℕ, ◌<◌, List, [], ◌∷◌, Some, None, Bool, true, cond, ◌&&◌, refl, sym, ap, subst, ◌∙◌, find, All, Fits, w8, get_or, arith}
use Rattle.std.specs.Cmp.Lexicographic.{pointwise}
use Rattle.std.proofs.lemmas.Bool.{and_parts}
use Rattle.std.proofs.lemmas.List.Elements.{All-from_get_or}
use Rattle.matchit.specs.Rows.{RowsOf}
use Rattle.matchit.specs.Seek.{first}
use Rattle.matchit.specs.Router.{RouteOf, rename, map_key}
use Rattle.matchit.proofs.RenameLemmas.{first-rename}
use Rattle.matchit.proofs.OnLiterals.{matchit_on_literals}
use Rattle.wf_routes.specs.declared.table.Path.{Path}
use Rattle.wf_routes.specs.Made.{RouterRows, router_rows}
use Rattle.wf_routes.specs.Paths.{segments, stands_for, fits, path_of}
use Rattle.wf_routes.specs.Table.{path_row, paths}
use Rattle.wf_routes.proofs.Order.{after_segment, reads, first_read, in_order}
use Rattle.wf_routes.proofs.Tokens.{pieces_tokens, all_plain, later_segments, segments-parts, reads-pieces}
use Rattle.wf_routes.proofs.Walk.{value, first-reads}

-- the rows by the segments of the patterns
abbrev pub token_rows : List Path → RowsOf Path
token_rows [] = []
token_rows (path ∷ later) = (pieces_tokens (segments (path_row path).pattern), path) ∷ token_rows later

listed_rows : RowsOf Path
listed_rows = token_rows paths

abbrev pub are_plain : List Path → Bool
are_plain [] = true
are_plain (path ∷ later) = all_plain (segments (path_row path).pattern) && are_plain later

abbrev pub path_kept : RouteOf Path → Path
path_kept route = route.value

-- what matchit makes of the patterns are these rows, in the table's order
rows-made : rename path_kept router_rows ≡ listed_rows
unfolding router_rows listed_rows matchit_on_literals
rows-made = refl

rows-in_order : in_order listed_rows ≡ true
unfolding listed_rows
rows-in_order = refl

paths-plain : are_plain paths ≡ true
paths-plain = refl

reads-pattern : (pattern text : List ℕ) → all_plain (segments pattern) ≡ true → reads (pieces_tokens (segments pattern)) text ≡ fits pattern text
reads-pattern pattern text =
    let P : List (List ℕ) → Type 0 = λ pieces. all_plain pieces ≡ true → reads (pieces_tokens pieces) text ≡ pointwise stands_for pieces (segments text) in
    subst P (sym (segments-parts pattern)) (reads-pieces (value pattern) (later_segments (after_segment pattern)) text)

first_read-find : (later : List Path) (text : List ℕ) → are_plain later ≡ true → first_read (token_rows later) text ≡ find (λ (path : Path). fits (path_row path).pattern text) later
first_read-find [] text h = refl
first_read-find (path ∷ later) text h =
    let p = and_parts _ _ h in
    ap (λ v. cond v (Some path) (first_read (token_rows later) text)) (reads-pattern (path_row path).pattern text p.0)
    ∙ ap (λ o. cond (fits (path_row path).pattern text) (Some path) o) (first_read-find later text p.1)

listed-found : (text : List ℕ) → first_read listed_rows text ≡ path_of text
unfolding listed_rows path_of
listed-found text = first_read-find paths text paths-plain

path-found : (text : List ℕ) → All (λ b. b < 256) text → map_key path_kept (first router_rows text) ≡ path_of text
path-found text small =
    sym (first-rename path_kept router_rows text) ∙ (ap (λ rows. first rows text) rows-made
    ∙ (first-reads listed_rows text rows-in_order small ∙ listed-found text))

bytes-small : (text : List ℕ) → ((i : ℕ) → Fits w8 (get_or text i 0)) → All (λ b. b < 256) text
bytes-small text fits = All-from_get_or (λ b. b < 256) text 0 (λ i within. omega (arith, (fits i).fits))

-- where the router finds a route, and where it finds none
pub path-at : (rows : RouterRows) (text : List ℕ) (route : RouteOf Path) → rows ≡ router_rows → ((i : ℕ) → Fits w8 (get_or text i 0)) → first rows text ≡ Some route
    → Some route.value ≡ path_of text
path-at rows text route same fits found =
    let found' : first router_rows text ≡ Some route = rw same at found in
    ap (map_key path_kept) (sym found') ∙ path-found text (bytes-small text fits)

pub path-missing : (rows : RouterRows) (text : List ℕ) → rows ≡ router_rows → ((i : ℕ) → Fits w8 (get_or text i 0)) → first rows text ≡ None
    → None ≡ path_of text
path-missing rows text same fits missing =
    let missing' : first router_rows text ≡ None = rw same at missing in
    ap (map_key path_kept) (sym missing') ∙ path-found text (bytes-small text fits)
