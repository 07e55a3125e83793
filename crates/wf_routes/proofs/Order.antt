-- Rows of tokens in which a parameter takes a whole segment, and their order.
use Rattle.std.proofs.Common.{◌≡◌, ℕ, List, [], ◌∷◌, Option, Some, None, Bool, true, false, cond, not, ◌&&◌, ◌==◌, refl, sym, ltb, arith, eqb-true}
use Rattle.std.proofs.lemmas.Bool.{and_parts, and_from, true≢false}
use Rattle.std.proofs.lemmas.Bool.Decides.{nat_tests}
use Rattle.matchit.specs.Rows.{RowsOf, param_token, catch_all_token}
use Rattle.matchit.specs.Seek.{slash, step, own, with_suffix, same_text, segment}

-- what is left of a path behind its first segment
abbrev pub after_segment : List ℕ → List ℕ
after_segment [] = []
after_segment (b ∷ path) = cond (b == slash) (b ∷ path) (after_segment path)

-- the tokens read the whole path: each byte itself, and a parameter the rest of a segment, which has a byte
abbrev pub reads : List ℕ → List ℕ → Bool
reads [] [] = true
reads [] (b ∷ path) = false
reads (x ∷ t) [] = false
reads (x ∷ t) (b ∷ path) =
    cond (x == param_token) (cond (b == slash) false (reads t (after_segment path)))
    (cond (x == b) (reads t path) false)

-- the tokens end, or go on with a slash
abbrev pub ends_segment : List ℕ → Bool
ends_segment [] = true
ends_segment (x ∷ t) = x == slash

-- a parameter ends its segment, and there is no catch-all
abbrev pub is_whole : List ℕ → Bool
is_whole [] = true
is_whole (x ∷ t) = (ltb x catch_all_token && cond (x == param_token) (ends_segment t) true) && is_whole t

-- at the first token that differs the first list has no parameter
abbrev pub goes_before : List ℕ → List ℕ → Bool
goes_before [] b = true
goes_before (x ∷ a) [] = true
goes_before (x ∷ a) (y ∷ b) = cond (y == x) (goes_before a b) (not (x == param_token))

module _ {K : Type 0} where
  -- the first row that reads the path
  abbrev pub first_read : RowsOf K → List ℕ → Option K
  first_read [] path = None
  first_read ((t, key) ∷ rows) path = cond (reads t path) (Some key) (first_read rows path)

  -- the tokens go before each row
  abbrev pub leads : List ℕ → RowsOf K → Bool
  leads a [] = true
  leads a ((t, key) ∷ rows) = goes_before a t && leads a rows

  abbrev pub in_order : RowsOf K → Bool
  in_order [] = true
  in_order ((t, key) ∷ rows) = (is_whole t && leads t rows) && in_order rows

  -- each row ends, or goes on with a slash
  abbrev pub all_end : RowsOf K → Bool
  all_end [] = true
  all_end ((t, key) ∷ rows) = ends_segment t && all_end rows

  -- some row goes on
  abbrev pub some_goes_on : RowsOf K → Bool
  some_goes_on [] = false
  some_goes_on (([], key) ∷ rows) = some_goes_on rows
  some_goes_on ((x ∷ t, key) ∷ rows) = true

  leads-step : (b : ℕ) (t : List ℕ) (rows : RowsOf K) → leads (b ∷ t) rows ≡ true → leads t (step b rows) ≡ true
  leads-step b t [] h = refl
  leads-step b t (([], key) ∷ rows) h = leads-step b t rows h
  leads-step b t ((y ∷ u, key) ∷ rows) h = by (y == b) (and_parts _ _ h) (leads-step b t rows)
    where
      by : (v : Bool) → (cond v (goes_before t u) (not (b == param_token)) ≡ true) × (leads (b ∷ t) rows ≡ true)
          → (leads (b ∷ t) rows ≡ true → leads t (step b rows) ≡ true)
          → leads t (cond v ((u, key) ∷ step b rows) (step b rows)) ≡ true
      by true h ih = and_from _ _ h.0 (ih h.1)
      by false h ih = ih h.1

  pub in_order-step : (b : ℕ) (rows : RowsOf K) → in_order rows ≡ true → in_order (step b rows) ≡ true
  in_order-step b [] h = refl
  in_order-step b (([], key) ∷ rows) h = in_order-step b rows (and_parts _ _ h).1
  in_order-step b ((x ∷ t, key) ∷ rows) h =
      by (x == b) refl (and_parts _ _ (and_parts _ _ h).0) (in_order-step b rows (and_parts _ _ h).1)
    where
      by : (v : Bool) → (x == b) ≡ v → (is_whole (x ∷ t) ≡ true) × (leads (x ∷ t) rows ≡ true) → in_order (step b rows) ≡ true
          → in_order (cond v ((t, key) ∷ step b rows) (step b rows)) ≡ true
      by true e h ih =
          let same : x ≡ b = eqb-true x b e in
          let after : leads (b ∷ t) rows ≡ true = rw same at h.1 in
          and_from _ _ (and_from _ _ (and_parts _ _ h.0).1 (leads-step b t rows after)) ih
      by false e h ih = ih

  -- behind a row that goes on with a parameter no row goes on with a byte
  pub step-behind : (b : ℕ) (t : List ℕ) (rows : RowsOf K) → (b == param_token) ≡ false → leads (param_token ∷ t) rows ≡ true → step b rows ≡ []
  step-behind b t [] n h = refl
  step-behind b t (([], key) ∷ rows) n h = step-behind b t rows n h
  step-behind b t ((y ∷ u, key) ∷ rows) n h =
      by (y == param_token) refl (y == b) refl (and_parts _ _ h).0 (step-behind b t rows n (and_parts _ _ h).1)
    where
      by : (v : Bool) → (y == param_token) ≡ v → (w : Bool) → (y == b) ≡ w
          → cond v (goes_before t u) false ≡ true → step b rows ≡ []
          → cond w ((u, key) ∷ step b rows) (step b rows) ≡ []
      by false e w f h ih = absurd (true≢false (sym h))
      by true e true f h ih = grind (arith, nat_tests)
      by true e false f h ih = ih

  pub own-reads : (rows : RowsOf K) → own rows ≡ first_read rows []
  own-reads [] = refl
  own-reads (([], key) ∷ rows) = refl
  own-reads ((x ∷ t, key) ∷ rows) = own-reads rows

  pub step-catch_all : (rows : RowsOf K) → in_order rows ≡ true → step catch_all_token rows ≡ []
  step-catch_all [] h = refl
  step-catch_all (([], key) ∷ rows) h = step-catch_all rows (and_parts _ _ h).1
  step-catch_all ((x ∷ t, key) ∷ rows) h =
      by (x == catch_all_token) refl (and_parts _ _ (and_parts _ _ (and_parts _ _ (and_parts _ _ h).0).0).0).0 (step-catch_all rows (and_parts _ _ h).1)
    where
      by : (v : Bool) → (x == catch_all_token) ≡ v → ltb x catch_all_token ≡ true → step catch_all_token rows ≡ []
          → cond v ((t, key) ∷ step catch_all_token rows) (step catch_all_token rows) ≡ []
      by true e h ih = grind (arith, nat_tests)
      by false e h ih = ih

  pub all_end-step : (rows : RowsOf K) → in_order rows ≡ true → all_end (step param_token rows) ≡ true
  all_end-step [] h = refl
  all_end-step (([], key) ∷ rows) h = all_end-step rows (and_parts _ _ h).1
  all_end-step ((x ∷ t, key) ∷ rows) h =
      by (x == param_token) (and_parts _ _ (and_parts _ _ (and_parts _ _ (and_parts _ _ h).0).0).0).1 (all_end-step rows (and_parts _ _ h).1)
    where
      by : (v : Bool) → cond v (ends_segment t) true ≡ true → all_end (step param_token rows) ≡ true
          → all_end (cond v ((t, key) ∷ step param_token rows) (step param_token rows)) ≡ true
      by true h ih = and_from _ _ h ih
      by false h ih = ih

  -- the rows with some suffix keep their order
  leads-with_suffix : (a s : List ℕ) (rows : RowsOf K) → leads a rows ≡ true → leads a (with_suffix s rows) ≡ true
  leads-with_suffix a s [] h = refl
  leads-with_suffix a s ((t, key) ∷ rows) h =
      by (same_text (segment t) s) (and_parts _ _ h).0 (leads-with_suffix a s rows (and_parts _ _ h).1)
    where
      by : (v : Bool) → goes_before a t ≡ true → leads a (with_suffix s rows) ≡ true
          → leads a (cond v ((t, key) ∷ with_suffix s rows) (with_suffix s rows)) ≡ true
      by true h ih = and_from _ _ h ih
      by false h ih = ih

  pub in_order-with_suffix : (s : List ℕ) (rows : RowsOf K) → in_order rows ≡ true → in_order (with_suffix s rows) ≡ true
  in_order-with_suffix s [] h = refl
  in_order-with_suffix s ((t, key) ∷ rows) h =
      by (same_text (segment t) s) (and_parts _ _ (and_parts _ _ h).0) (in_order-with_suffix s rows (and_parts _ _ h).1)
    where
      by : (v : Bool) → (is_whole t ≡ true) × (leads t rows ≡ true) → in_order (with_suffix s rows) ≡ true
          → in_order (cond v ((t, key) ∷ with_suffix s rows) (with_suffix s rows)) ≡ true
      by true h ih = and_from _ _ (and_from _ _ h.0 (leads-with_suffix t s rows h.1)) ih
      by false h ih = ih
