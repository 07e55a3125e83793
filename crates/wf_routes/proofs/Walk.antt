-- The walk of matchit finds the first row that reads the path, where a parameter takes a whole segment.
use Rattle.std.proofs.Common.{◌≡◌, ℕ, zero, suc, ◌+◌, ◌-◌, ◌<◌, List, [], ◌∷◌, ◌++◌, Option, Some, None, Bool, true, false, cond, ◌&&◌, ◌==◌, refl, sym, ap, ◌∙◌, length, drop, ltb, arith, eqb-true, nat_eq, All, length-append}
use Rattle.std.specs.List.{ends_with}
use Rattle.std.specs.Cmp.Lexicographic.{pointwise}
use Rattle.std.proofs.lemmas.Bool.{and_parts, and_from, and_right, true≢false}
use Rattle.std.proofs.lemmas.Bool.Decides.{nat_tests}
use Rattle.std.proofs.lemmas.List.Elements.{All-head, All-tail}
use Rattle.matchit.specs.Rows.{RowsOf, param_token}
use Rattle.matchit.specs.Seek.{slash, step, or_else, seek, first, segment, has_slash, cuts, longest_from, longest_suffix, with_suffix, param_step}
use Rattle.matchit.proofs.ParamLemmas.{drop-length}
use Rattle.wf_routes.proofs.Order.{after_segment, reads, first_read, leads, in_order, all_end, some_goes_on, in_order-step, step-behind, own-reads, step-catch_all, all_end-step, in_order-with_suffix}

-- what stands before the first slash
abbrev pub value : List ℕ → List ℕ
value [] = []
value (b ∷ path) = cond (b == slash) [] (b ∷ value path)

drop-value : (v w : List ℕ) → drop (length v) (v ++ w) ≡ w
drop-value [] w = refl
drop-value (x ∷ v) w = drop-value v w

path-parts : (path : List ℕ) → path ≡ value path ++ after_segment path
path-parts [] = refl
path-parts (b ∷ path) = by (b == slash) (path-parts path)
  where
    by : (v : Bool) → path ≡ value path ++ after_segment path
        → b ∷ path ≡ cond v [] (b ∷ value path) ++ cond v (b ∷ path) (after_segment path)
    by true ih = refl
    by false ih = ap (λ p. b ∷ p) ih

segment-parts : (path : List ℕ) → has_slash path ≡ true → segment path ≡ value path ++ (slash ∷ [])
segment-parts [] h = absurd (true≢false (sym h))
segment-parts (b ∷ path) h = by (b == slash) refl h (segment-parts path)
  where
    by : (v : Bool) → (b == slash) ≡ v → cond v true (has_slash path) ≡ true
        → (has_slash path ≡ true → segment path ≡ value path ++ (slash ∷ []))
        → cond v (b ∷ []) (b ∷ segment path) ≡ cond v [] (b ∷ value path) ++ (slash ∷ [])
    by true e h ih = ap (λ (c : ℕ). c ∷ []) (eqb-true b slash e)
    by false e h ih = ap (λ p. b ∷ p) (ih h)

after-slash : (path : List ℕ) → has_slash path ≡ true → (rest : List ℕ) × (after_segment path ≡ slash ∷ rest)
after-slash [] h = absurd (true≢false (sym h))
after-slash (b ∷ path) h = by (b == slash) refl h (after-slash path)
  where
    by : (v : Bool) → (b == slash) ≡ v → cond v true (has_slash path) ≡ true
        → (has_slash path ≡ true → (rest : List ℕ) × (after_segment path ≡ slash ∷ rest))
        → (rest : List ℕ) × (cond v (b ∷ path) (after_segment path) ≡ slash ∷ rest)
    by true e h ih = (path, ap (λ (c : ℕ). c ∷ path) (eqb-true b slash e))
    by false e h ih = ih h

after-none : (path : List ℕ) → has_slash path ≡ false → after_segment path ≡ []
after-none [] h = refl
after-none (b ∷ path) h = by (b == slash) h (after-none path)
  where
    by : (v : Bool) → cond v true (has_slash path) ≡ false → (has_slash path ≡ false → after_segment path ≡ [])
        → cond v (b ∷ path) (after_segment path) ≡ []
    by true h ih = absurd (true≢false h)
    by false h ih = ih h

segment-none : (path : List ℕ) → has_slash path ≡ false → segment path ≡ path
segment-none [] h = refl
segment-none (b ∷ path) h = by (b == slash) h (segment-none path)
  where
    by : (v : Bool) → cond v true (has_slash path) ≡ false → (has_slash path ≡ false → segment path ≡ path)
        → cond v (b ∷ []) (b ∷ segment path) ≡ b ∷ path
    by true h ih = absurd (true≢false h)
    by false h ih = ap (λ p. b ∷ p) (ih h)

-- a text without a slash does not end with one
ends-none : (n : ℕ) (path : List ℕ) → has_slash path ≡ false → pointwise nat_eq (slash ∷ []) (drop n path) ≡ false
ends-none zero [] h = refl
ends-none (suc n) [] h = refl
ends-none zero (b ∷ path) h = by (b == slash) refl h
  where
    by : (v : Bool) → (b == slash) ≡ v → cond v true (has_slash path) ≡ false
        → (nat_eq slash b && pointwise nat_eq [] path) ≡ false
    by true e h = absurd (true≢false h)
    by false e h =
        let n : nat_eq slash b ≡ false = grind (arith, nat_tests) in
        rw n refl
ends-none (suc n) (b ∷ path) h = by (b == slash) h (ends-none n path)
  where
    by : (v : Bool) → cond v true (has_slash path) ≡ false
        → (has_slash path ≡ false → pointwise nat_eq (slash ∷ []) (drop n path) ≡ false)
        → pointwise nat_eq (slash ∷ []) (drop n path) ≡ false
    by true h ih = absurd (true≢false h)
    by false h ih = ih h

-- a value with a slash behind it ends with the slash, and leaves the value
cuts-yes : (b : ℕ) (v : List ℕ) → cuts ((b ∷ v) ++ (slash ∷ [])) (slash ∷ []) ≡ true
cuts-yes b v =
    let len : length ((b ∷ v) ++ (slash ∷ [])) ≡ length (b ∷ v) + 1 = length-append (b ∷ v) (slash ∷ []) in
    let at : length ((b ∷ v) ++ (slash ∷ [])) - 1 ≡ length (b ∷ v) = omega arith in
    let more : ltb 1 (length ((b ∷ v) ++ (slash ∷ []))) ≡ true = grind (arith, nat_tests) in
    let left : drop (length ((b ∷ v) ++ (slash ∷ [])) - 1) ((b ∷ v) ++ (slash ∷ [])) ≡ slash ∷ [] = rw at (drop-value (b ∷ v) (slash ∷ [])) in
    and_from _ _ more (ap (λ s. pointwise nat_eq (slash ∷ []) s) left)

module _ {K : Type 0} where
  -- the row that a parameter leads to, of the rows behind one
  abbrev pub param_read : ℕ → List ℕ → RowsOf K → Option K
  param_read b path rows = cond (b == slash) None (first_read rows (after_segment path))

  -- a byte, or else a parameter
  pub first_read-split : (b : ℕ) (path : List ℕ) (rows : RowsOf K) → (b == param_token) ≡ false → in_order rows ≡ true
      → first_read rows (b ∷ path) ≡ or_else (first_read (step b rows) path) (param_read b path (step param_token rows))
  first_read-split b path [] n h = by (b == slash) None refl
    where
      by : (v : Bool) (o : Option K) → o ≡ None → o ≡ cond v None None
      by true o e = e
      by false o e = e
  first_read-split b path (([], key) ∷ rows) n h = first_read-split b path rows n (and_parts _ _ h).1
  first_read-split b path ((x ∷ t, key) ∷ rows) n h =
      by (x == param_token) refl (x == b) refl (and_parts _ _ (and_parts _ _ h).0).1 (first_read-split b path rows n (and_parts _ _ h).1)
    where
      at_param : (v w : Bool) (A : Option K) → A ≡ cond v None (first_read (step param_token rows) (after_segment path))
          → cond (cond v false w) (Some key) A ≡ cond v None (cond w (Some key) (first_read (step param_token rows) (after_segment path)))
      at_param true w A h = h
      at_param false true A h = refl
      at_param false false A h = h

      at_byte : (w : Bool) (A B C : Option K) → A ≡ or_else B C → cond w (Some key) A ≡ or_else (cond w (Some key) B) C
      at_byte true A B C h = refl
      at_byte false A B C h = h

      by : (u : Bool) → (x == param_token) ≡ u → (v : Bool) → (x == b) ≡ v → leads (x ∷ t) rows ≡ true
          → first_read rows (b ∷ path) ≡ or_else (first_read (step b rows) path) (param_read b path (step param_token rows))
          → cond (cond u (cond (b == slash) false (reads t (after_segment path))) (cond v (reads t path) false)) (Some key) (first_read rows (b ∷ path))
          ≡ or_else (first_read (cond v ((t, key) ∷ step b rows) (step b rows)) path) (param_read b path (cond u ((t, key) ∷ step param_token rows) (step param_token rows)))
      by true e true f l ih = grind (arith, nat_tests)
      by true e false f l ih =
          let after : leads (param_token ∷ t) rows ≡ true = rw (eqb-true x param_token e) at l in
          let none : step b rows ≡ [] = step-behind b t rows n after in
          let ih' : first_read rows (b ∷ path) ≡ param_read b path (step param_token rows) = rw none at ih in
          rw none (at_param (b == slash) (reads t (after_segment path)) (first_read rows (b ∷ path)) ih')
      by false e true f l ih = at_byte (reads t path) _ _ _ ih
      by false e false f l ih = ih

  longest-kept : (seg : List ℕ) (rows : RowsOf K) → all_end rows ≡ true → longest_from seg (slash ∷ []) rows ≡ slash ∷ []
  longest-kept seg [] h = refl
  longest-kept seg (([], key) ∷ rows) h = longest-kept seg rows h
  longest-kept seg ((x ∷ t, key) ∷ rows) h =
      let p = and_parts _ _ h in
      rw (eqb-true x slash p.0) (longest-kept seg rows p.1)

  longest-found : (seg : List ℕ) (rows : RowsOf K) → all_end rows ≡ true
      → longest_suffix seg rows ≡ cond (some_goes_on rows && cuts seg (slash ∷ [])) (slash ∷ []) []
  longest-found seg [] h = refl
  longest-found seg (([], key) ∷ rows) h = longest-found seg rows h
  longest-found seg ((x ∷ t, key) ∷ rows) h =
      let p = and_parts _ _ h in
      rw (eqb-true x slash p.0) (by (cuts seg (slash ∷ [])) refl (longest-found seg rows p.1) (longest-kept seg rows p.1))
    where
      by : (v : Bool) → cuts seg (slash ∷ []) ≡ v
          → longest_suffix seg rows ≡ cond (some_goes_on rows && cuts seg (slash ∷ [])) (slash ∷ []) []
          → longest_from seg (slash ∷ []) rows ≡ slash ∷ []
          → longest_from seg (cond v (slash ∷ []) []) rows ≡ cond v (slash ∷ []) []
      by true e ih kept = kept
      by false e ih kept =
          ih ∙ ap (λ (v : Bool). cond v (slash ∷ []) []) (and_right _ _ e)

  -- rows that all end read nothing more
  none-read : (rows : RowsOf K) (b : ℕ) (path : List ℕ) → some_goes_on rows ≡ false → first_read rows (b ∷ path) ≡ None
  none-read [] b path h = refl
  none-read (([], key) ∷ rows) b path h = none-read rows b path h
  none-read ((x ∷ t, key) ∷ rows) b path h = absurd (true≢false h)

  with_suffix-read : (rows : RowsOf K) (b : ℕ) (path : List ℕ) → all_end rows ≡ true
      → first_read (with_suffix (slash ∷ []) rows) (b ∷ path) ≡ first_read rows (b ∷ path)
  with_suffix-read [] b path h = refl
  with_suffix-read (([], key) ∷ rows) b path h = with_suffix-read rows b path h
  with_suffix-read ((x ∷ t, key) ∷ rows) b path h =
      let p = and_parts _ _ h in
      rw (eqb-true x slash p.0) (ap (λ o. cond (reads (slash ∷ t) (b ∷ path)) (Some key) o) (with_suffix-read rows b path p.1))

  -- where a parameter stops at its slash
  param-value : (b : ℕ) (path : List ℕ) (rows : RowsOf K) → (b == slash) ≡ false → has_slash path ≡ true → all_end rows ≡ true → some_goes_on rows ≡ true
      → param_step rows (b ∷ path) ≡ (length (b ∷ value path), with_suffix (slash ∷ []) rows)
  unfolding param_step
  param-value b path rows n h e g =
      let seg : segment (b ∷ path) ≡ (b ∷ value path) ++ (slash ∷ []) = rw n (ap (λ p. b ∷ p) (segment-parts path h)) in
      let cut : cuts (segment (b ∷ path)) (slash ∷ []) ≡ true = rw seg (cuts-yes b (value path)) in
      let long : longest_suffix (segment (b ∷ path)) rows ≡ slash ∷ [] =
      longest-found (segment (b ∷ path)) rows e ∙ ap (λ (v : Bool). cond v (slash ∷ []) []) (and_from _ _ g cut) in
      let len : length ((b ∷ value path) ++ (slash ∷ [])) ≡ length (b ∷ value path) + 1 = length-append (b ∷ value path) (slash ∷ []) in
      let left : length ((b ∷ value path) ++ (slash ∷ [])) - 1 ≡ length (b ∷ value path) = omega arith in
      rw (long, seg) (ap (λ k. (k, with_suffix (slash ∷ []) rows)) left)

  -- where the longest suffix is none
  param-stop : (b : ℕ) (path : List ℕ) (rows : RowsOf K) → longest_suffix (segment (b ∷ path)) rows ≡ [] → has_slash (b ∷ path) ≡ true
      → param_step rows (b ∷ path) ≡ (0, [])
  unfolding param_step
  param-stop b path rows long h = rw (long, h) refl

  param-end : (b : ℕ) (path : List ℕ) (rows : RowsOf K) → longest_suffix (segment (b ∷ path)) rows ≡ [] → has_slash (b ∷ path) ≡ false
      → param_step rows (b ∷ path) ≡ (length (b ∷ path), rows)
  unfolding param_step
  param-end b path rows long h = rw (long, h) refl

  -- what a parameter leaves is in order, and reads what the rows behind the parameter read
  abbrev pub Goes : ℕ → List ℕ → RowsOf K → ℕ × RowsOf K → Type 0
  Goes b path rows went =
      (in_order went.1 ≡ true) × (first_read went.1 (drop (went.0 - 1) path) ≡ param_read b path rows)

  goes-value : (b : ℕ) (path : List ℕ) (rows : RowsOf K) → (b == slash) ≡ false → has_slash path ≡ true → all_end rows ≡ true → in_order rows ≡ true
      → Goes b path rows (length (b ∷ value path), with_suffix (slash ∷ []) rows)
  goes-value b path rows n h e o =
      let back : length (b ∷ value path) - 1 ≡ length (value path) = omega arith in
      let left : drop (length (value path)) path ≡ after_segment path =
      ap (drop (length (value path))) (path-parts path) ∙ drop-value (value path) (after_segment path) in
      let slashed = after-slash path h in
      (in_order-with_suffix (slash ∷ []) rows o, rw (back, left, n, slashed.1) (with_suffix-read rows slash slashed.0 e))

  goes-none : (b : ℕ) (path : List ℕ) (rows : RowsOf K) → (b == slash) ≡ false → has_slash path ≡ true → some_goes_on rows ≡ false
      → Goes b path rows (0, [])
  goes-none b path rows n h g =
      let slashed = after-slash path h in
      (refl, rw (n, slashed.1) (sym (none-read rows slash slashed.0 g)))

  goes-end : (b : ℕ) (path : List ℕ) (rows : RowsOf K) → (b == slash) ≡ false → has_slash path ≡ false → in_order rows ≡ true
      → Goes b path rows (length (b ∷ path), rows)
  goes-end b path rows n h o =
      let back : length (b ∷ path) - 1 ≡ length path = omega arith in
      (o, rw (back, drop-length path, n, after-none path h) refl)

  goes : (b : ℕ) (path : List ℕ) (rows : RowsOf K) → all_end rows ≡ true → in_order rows ≡ true → Goes b path rows (param_step rows (b ∷ path))
  goes b path rows e o = by (b == slash) refl (has_slash path) refl (some_goes_on rows) refl
    where
      by : (u : Bool) → (b == slash) ≡ u → (v : Bool) → has_slash path ≡ v → (w : Bool) → some_goes_on rows ≡ w
          → Goes b path rows (param_step rows (b ∷ path))
      by true p v q w r =
          let cut : cuts (segment (b ∷ path)) (slash ∷ []) ≡ false = rw p refl in
          let long : longest_suffix (segment (b ∷ path)) rows ≡ [] =
          longest-found (segment (b ∷ path)) rows e ∙ ap (λ (v : Bool). cond v (slash ∷ []) []) (and_right _ _ cut) in
          let has : has_slash (b ∷ path) ≡ true = rw p refl in
          rw (param-stop b path rows long has) (refl, rw p refl)
      by false p true q true r = rw (param-value b path rows p q e r) (goes-value b path rows p q e o)
      by false p true q false r =
          let long : longest_suffix (segment (b ∷ path)) rows ≡ [] =
          longest-found (segment (b ∷ path)) rows e ∙ ap (λ (v : Bool). cond (v && cuts (segment (b ∷ path)) (slash ∷ [])) (slash ∷ []) []) r in
          let has : has_slash (b ∷ path) ≡ true = rw p q in
          rw (param-stop b path rows long has) (goes-none b path rows p q r)
      by false p false q w r =
          let has : has_slash (b ∷ path) ≡ false = rw p q in
          let seg : segment (b ∷ path) ≡ b ∷ path = segment-none (b ∷ path) has in
          let last : ends_with nat_eq (segment (b ∷ path)) (slash ∷ []) ≡ false = rw seg (ends-none (length (b ∷ path) - 1) (b ∷ path) has) in
          let cut : cuts (segment (b ∷ path)) (slash ∷ []) ≡ false = and_right _ _ last in
          let long : longest_suffix (segment (b ∷ path)) rows ≡ [] =
          longest-found (segment (b ∷ path)) rows e ∙ ap (λ (v : Bool). cond v (slash ∷ []) []) (and_right _ _ cut) in
          rw (param-end b path rows long has) (goes-end b path rows p q o)

  or_else-none : (o : Option K) → or_else o None ≡ o
  or_else-none None = refl
  or_else-none (Some key) = refl

  -- the walk, after skipping some bytes
  seek-reads : (skip : ℕ) (rows : RowsOf K) (path : List ℕ) → in_order rows ≡ true → All (λ b. b < 256) path
      → seek skip rows path ≡ first_read rows (drop skip path)
  unfolding seek
  seek-reads zero rows [] h small = own-reads rows
  seek-reads (suc skip) rows [] h small = own-reads rows
  seek-reads (suc skip) rows (b ∷ path) h small = seek-reads skip rows path h (All-tail (λ b. b < 256) b path small)
  seek-reads zero rows (b ∷ path) h small =
      let below : b < 256 = All-head (λ b. b < 256) b path small in
      let rest = All-tail (λ b. b < 256) b path small in
      let n : (b == param_token) ≡ false = grind (arith, nat_tests) in
      let behind = step param_token rows in
      let went = goes b path behind (all_end-step rows h) (in_order-step param_token rows h) in
      let left : seek ((param_step behind (b ∷ path)).0 - 1) (param_step behind (b ∷ path)).1 path ≡ param_read b path behind =
      seek-reads ((param_step behind (b ∷ path)).0 - 1) (param_step behind (b ∷ path)).1 path went.0 rest ∙ went.1 in
      let byte : seek 0 (step b rows) path ≡ first_read (step b rows) path = seek-reads 0 (step b rows) path (in_order-step b rows h) rest in
      rw (byte, left, step-catch_all rows h, or_else-none (param_read b path behind)) (sym (first_read-split b path rows n h))

  -- the row that the walk finds is the first that reads the path
  pub first-reads : (rows : RowsOf K) (path : List ℕ) → in_order rows ≡ true → All (λ b. b < 256) path → first rows path ≡ first_read rows path
  first-reads rows path h small = seek-reads 0 rows path h small
