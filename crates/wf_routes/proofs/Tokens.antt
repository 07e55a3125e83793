-- The tokens of a pattern read a path just where its segments fit the path's.
use Rattle.std.proofs.Common.{◌≡◌, ℕ, List, [], ◌∷◌, ◌++◌, Bool, true, false, cond, not, ◌&&◌, ◌==◌, refl, ap, ◌∙◌, ltb, arith, eqb-true, bytes_eq}
use Rattle.std.specs.List.{onto_first}
use Rattle.std.specs.Cmp.Lexicographic.{pointwise}
use Rattle.std.proofs.lemmas.Bool.{and_parts}
use Rattle.std.proofs.lemmas.Bool.Decides.{nat_tests}
use Rattle.matchit.specs.Rows.{param_token}
use Rattle.wf_routes.specs.Paths.{slash, segments, is_empty, is_parameter, stands_for}
use Rattle.wf_routes.proofs.Order.{after_segment, reads, ends_segment}
use Rattle.wf_routes.proofs.Walk.{value}

-- the tokens of a segment of a pattern
abbrev pub piece_tokens : List ℕ → List ℕ
piece_tokens piece = cond (is_parameter piece) (param_token ∷ []) piece

-- the tokens of the segments behind the first
abbrev pub behind : List (List ℕ) → List ℕ
behind [] = []
behind (piece ∷ pieces) = slash ∷ (piece_tokens piece ++ behind pieces)

-- the tokens of a pattern
abbrev pub pieces_tokens : List (List ℕ) → List ℕ
pieces_tokens [] = []
pieces_tokens (piece ∷ pieces) = piece_tokens piece ++ behind pieces

-- bytes of which none is a slash
abbrev pub is_plain : List ℕ → Bool
is_plain [] = true
is_plain (b ∷ piece) = (ltb b param_token && not (b == slash)) && is_plain piece

abbrev pub all_plain : List (List ℕ) → Bool
all_plain [] = true
all_plain (piece ∷ pieces) = is_plain piece && all_plain pieces

-- the segments of what is left behind the first
abbrev pub later_segments : List ℕ → List (List ℕ)
later_segments [] = []
later_segments (b ∷ path) = segments path

pub segments-parts : (path : List ℕ) → segments path ≡ value path ∷ later_segments (after_segment path)
segments-parts [] = refl
segments-parts (b ∷ path) = by (b == slash) (segments-parts path)
  where
    by : (v : Bool) → segments path ≡ value path ∷ later_segments (after_segment path)
        → cond v ([] ∷ segments path) (onto_first b (segments path))
        ≡ cond v [] (b ∷ value path) ∷ later_segments (cond v (b ∷ path) (after_segment path))
    by true ih = refl
    by false ih = ap (onto_first b) ih

after-ends : (path : List ℕ) → ends_segment (after_segment path) ≡ true
after-ends [] = refl
after-ends (b ∷ path) = by (b == slash) refl (after-ends path)
  where
    by : (v : Bool) → (b == slash) ≡ v → ends_segment (after_segment path) ≡ true
        → ends_segment (cond v (b ∷ path) (after_segment path)) ≡ true
    by true e ih = e
    by false e ih = ih

behind-ends : (pieces : List (List ℕ)) → ends_segment (behind pieces) ≡ true
behind-ends [] = refl
behind-ends (piece ∷ pieces) = refl

-- what begins with a slash reads no other byte
reads-no : (ts : List ℕ) (b : ℕ) (path : List ℕ) → ends_segment ts ≡ true → (b == slash) ≡ false → reads ts (b ∷ path) ≡ false
reads-no [] b path h n = refl
reads-no (x ∷ t) b path h n =
    let s : x ≡ slash = eqb-true x slash h in
    let differ : (slash == b) ≡ false = grind (arith, nat_tests) in
    rw (s, differ) refl

reads-static : (piece ts path : List ℕ) → is_plain piece ≡ true → ends_segment ts ≡ true
    → reads (piece ++ ts) path ≡ (bytes_eq piece (value path) && reads ts (after_segment path))
reads-static [] ts [] p h = refl
reads-static [] ts (b ∷ path) p h = by (b == slash) refl
  where
    by : (v : Bool) → (b == slash) ≡ v
        → reads ts (b ∷ path) ≡ (bytes_eq [] (cond v [] (b ∷ value path)) && reads ts (cond v (b ∷ path) (after_segment path)))
    by true e = refl
    by false e = reads-no ts b path h e
reads-static (x ∷ piece) ts [] p h = refl
reads-static (x ∷ piece) ts (b ∷ path) p h =
    let q = and_parts _ _ p in
    let r = and_parts _ _ q.0 in
    let small : ltb x param_token ≡ true = r.0 in
    let byte : (x == param_token) ≡ false = grind (arith, nat_tests) in
    rw byte (by (b == slash) refl (x == b) refl r.1 (reads-static piece ts path q.1 h))
  where
    by : (v : Bool) → (b == slash) ≡ v → (w : Bool) → (x == b) ≡ w → not (x == slash) ≡ true
        → reads (piece ++ ts) path ≡ (bytes_eq piece (value path) && reads ts (after_segment path))
        → cond w (reads (piece ++ ts) path) false
        ≡ (bytes_eq (x ∷ piece) (cond v [] (b ∷ value path)) && reads ts (cond v (b ∷ path) (after_segment path)))
    by true e true f n ih = grind (arith, nat_tests)
    by true e false f n ih = refl
    by false e true f n ih = rw f ih
    by false e false f n ih = rw f refl

reads-param : (ts path : List ℕ)
    → reads (param_token ∷ ts) path ≡ (not (is_empty (value path)) && reads ts (after_segment path))
reads-param ts [] = refl
reads-param ts (b ∷ path) = by (b == slash)
  where
    by : (v : Bool)
        → cond v false (reads ts (after_segment path))
        ≡ (not (is_empty (cond v [] (b ∷ value path))) && reads ts (cond v (b ∷ path) (after_segment path)))
    by true = refl
    by false = refl

reads-piece : (piece ts path : List ℕ) → is_plain piece ≡ true → ends_segment ts ≡ true
    → reads (piece_tokens piece ++ ts) path ≡ (stands_for piece (value path) && reads ts (after_segment path))
reads-piece piece ts path p h = by (is_parameter piece)
  where
    by : (v : Bool)
        → reads (cond v (param_token ∷ []) piece ++ ts) path
        ≡ (cond v (not (is_empty (value path))) (bytes_eq piece (value path)) && reads ts (after_segment path))
    by true = reads-param ts path
    by false = reads-static piece ts path p h

reads-behind : (pieces : List (List ℕ)) (path : List ℕ) → all_plain pieces ≡ true → ends_segment path ≡ true
    → reads (behind pieces) path ≡ pointwise stands_for pieces (later_segments path)
reads-behind [] [] p h = refl
reads-behind [] (b ∷ path) p h = rw (segments-parts path) refl
reads-behind (piece ∷ pieces) [] p h = refl
reads-behind (piece ∷ pieces) (b ∷ path) p h =
    let q = and_parts _ _ p in
    let s : b ≡ slash = eqb-true b slash h in
    rw (s, segments-parts path) (reads-piece piece (behind pieces) path q.0 (behind-ends pieces)
    ∙ ap (λ v. stands_for piece (value path) && v) (reads-behind pieces (after_segment path) q.1 (after-ends path)))

-- the tokens of a pattern read a path just where its segments stand for the path's
pub reads-pieces : (piece : List ℕ) (pieces : List (List ℕ)) (path : List ℕ) → all_plain (piece ∷ pieces) ≡ true
    → reads (pieces_tokens (piece ∷ pieces)) path ≡ pointwise stands_for (piece ∷ pieces) (segments path)
reads-pieces piece pieces path p =
    let q = and_parts _ _ p in
    rw (segments-parts path) (reads-piece piece (behind pieces) path q.0 (behind-ends pieces)
    ∙ ap (λ v. stands_for piece (value path) && v) (reads-behind pieces (after_segment path) q.1 (after-ends path)))
