-- A template only adds: a document that is too large stays so with the keys of a template.
use Rattle.std.proofs.Common.{◌≡◌, ◌∙◌, ap, sym, refl, ℕ, ◌+◌, ◌≤◌, max, Bool, true, false, ◌||◌, nat_lt, if◌then◌else◌, List, [], ◌∷◌, length, map, Option, None, Some, arith}
use Rattle.std.proofs.lemmas.Bool.Decides.{nat_tests}
use Rattle.std.proofs.lemmas.List.{take_all}
use Rattle.std.proofs.lemmas.List.Sums.{sum_by-cons}
use Rattle.std.specs.Prelude.{is_some}
use Rattle.std.specs.Cmp.Lexicographic.{slice_cmp}
use Rattle.std.specs.List.{sum_by}
use Rattle.std.specs.Option.{option_map_or}
use Rattle.std.specs.Ordering.{nat_cmp, match_ordering}
use Rattle.std.specs.declared.cmp.Ordering.{Ordering}
use Rattle.std.specs.declared.cmp.Ordering.TheVariants.{Less, Equal, Greater}
use Rattle.json.specs.Print.{quoted}
use Rattle.wf_doc.specs.declared.doc.Doc.{Doc}
use Rattle.wf_doc.specs.declared.doc.Doc as doc
use Rattle.wf_doc.specs.declared.doc.Doc.TheOpen.{Doc-F}
use Rattle.wf_doc.specs.declared.doc.Doc.TheVariants.{rolls-Table}
use Rattle.wf_doc.specs.declared.doc.Doc.TheViews.{out-Doc, roll-Doc, roll-out-Doc}
use Rattle.wf_doc.specs.declared.fields.Entry.{Entry}
use Rattle.wf_doc.specs.Doc.{as_table, depth, largest}
use Rattle.wf_doc.specs.Fields.{entry, get, put}
use Rattle.wf_doc.specs.Json.{printed}
use Rattle.wf_doc.proofs.DocLemmas.{depth_table}
use Rattle.wf_doc.proofs.SizeLemmas.{table_done}
use Rattle.wf_machine.specs.Naming.{with_missing, with_template}
use Rattle.wf_rules.specs.Outputs.{is_too_large}
use Rattle.wf_wire.specs.declared.limits.Limits.{Limits}

-- ---- a key that isn't there yet

abbrev Grows : (List (Entry Doc) → ℕ) → Type 0
Grows m = (k : List ℕ) (v : Doc) (es : List (Entry Doc)) → get k es ≡ None → m es ≤ m (put k v es)

sum_at : (f : Entry Doc → ℕ) (k : List ℕ) (v : Doc) (e : Entry Doc) (es : List (Entry Doc)) (o : Ordering)
    → match_ordering o None (Some e.value) (get k es) ≡ None → (get k es ≡ None → sum_by f es ≤ sum_by f (put k v es))
    → sum_by f (e ∷ es) ≤ sum_by f (match_ordering o (entry k v ∷ e ∷ es) (entry k v ∷ es) (e ∷ put k v es))
sum_at f k v e es Less none more = omega (arith, sum_by-cons f (entry k v) (e ∷ es))
sum_at f k v e es Equal none more = let no : ⊥ = cc in absurd no
sum_at f k v e es Greater none more = omega (arith, sum_by-cons f e es, sum_by-cons f e (put k v es), more none)

sum_grows : (f : Entry Doc → ℕ) → Grows (λ es. sum_by f es)
sum_grows f k v [] none = omega arith
sum_grows f k v (e ∷ es) none = sum_at f k v e es (slice_cmp nat_cmp k e.key) none (sum_grows f k v es)

largest_at : (f : Entry Doc → ℕ) (k : List ℕ) (v : Doc) (e : Entry Doc) (es : List (Entry Doc)) (o : Ordering)
    → match_ordering o None (Some e.value) (get k es) ≡ None → (get k es ≡ None → largest (map f es) ≤ largest (map f (put k v es)))
    → largest (map f (e ∷ es)) ≤ largest (map f (match_ordering o (entry k v ∷ e ∷ es) (entry k v ∷ es) (e ∷ put k v es)))
largest_at f k v e es Less none more = omega arith
largest_at f k v e es Equal none more = let no : ⊥ = cc in absurd no
largest_at f k v e es Greater none more = let h = more none in omega (arith, h)

largest_grows : (f : Entry Doc → ℕ) → Grows (λ es. largest (map f es))
largest_grows f k v [] none = omega arith
largest_grows f k v (e ∷ es) none = largest_at f k v e es (slice_cmp nat_cmp k e.key) none (largest_grows f k v es)

-- ---- the keys of a template

one_more : (m : List (Entry Doc) → ℕ) → Grows m → (t : Entry Doc) (es : List (Entry Doc)) (o : Option Doc) → get t.key es ≡ o
    → m es ≤ m (if is_some o then es else put t.key t.value es)
one_more m grows t es None is = grows t.key t.value es is
one_more m grows t es (Some v) is = omega arith

missing_grows : (m : List (Entry Doc) → ℕ) → Grows m → (ts es : List (Entry Doc)) → m es ≤ m (with_missing ts es)
missing_grows m grows [] es = omega arith
missing_grows m grows (t ∷ ts) es =
    let more : List (Entry Doc) = if is_some (get t.key es) then es else put t.key t.value es in
    let here : m es ≤ m more = one_more m grows t es (get t.key es) refl in
    omega (arith, here, missing_grows m grows ts more)

-- ---- tables

length_table : (es : List (Entry Doc)) → length (printed (doc.Table es)) ≡ max (1 + sum_by (λ (e : Entry Doc). length (quoted e.key) + length (printed e.value) + 2) es) 2
length_table es =
    sym (table_done es es (length es) refl (omega arith))
    ∙ ap (λ xs. max (1 + sum_by (λ (e : Entry Doc). length (quoted e.key) + length (printed e.value) + 2) xs) 2) (take_all (length es) es (omega arith))

longer : (ts es : List (Entry Doc)) → length (printed (doc.Table es)) ≤ length (printed (doc.Table (with_missing ts es)))
longer ts es = omega (
  arith,
  length_table es,
  length_table (with_missing ts es),
  missing_grows (λ xs. sum_by (λ (e : Entry Doc). length (quoted e.key) + length (printed e.value) + 2) xs) (sum_grows (λ e. length (quoted e.key) + length (printed e.value) + 2)) ts es,
)

deeper : (ts es : List (Entry Doc)) → depth (doc.Table es) ≤ depth (doc.Table (with_missing ts es))
deeper ts es = omega (
  arith,
  depth_table es,
  depth_table (with_missing ts es),
  missing_grows (λ xs. largest (map (λ (e : Entry Doc). depth e.value) xs)) (largest_grows (λ e. depth e.value)) ts es,
)

-- ---- documents that are too large

or_true : (t : Bool) → (t || true) ≡ true
or_true true = refl
or_true false = refl

still : (a b x y p q : ℕ) → x ≤ p → y ≤ q → (t : Bool) → nat_lt a x ≡ t → (t || nat_lt b y) ≡ true → (nat_lt a p || nat_lt b q) ≡ true
still a b x y p q l m true e h = let f : nat_lt a p ≡ true = grind (arith, nat_tests) in rw f refl
still a b x y p q l m false e h = let f : nat_lt b q ≡ true = grind (arith, nat_tests) in rw f (or_true (nat_lt a p))

table_stays : (limits : Limits) (ts es : List (Entry Doc)) → is_too_large limits (doc.Table es) ≡ true → is_too_large limits (doc.Table (with_missing ts es)) ≡ true
table_stays limits ts es large =
    still limits.depth limits.document (depth (doc.Table es)) (length (printed (doc.Table es))) (depth (doc.Table (with_missing ts es))) (length (printed (doc.Table (with_missing ts es))))
    (deeper ts es) (longer ts es) (nat_lt limits.depth (depth (doc.Table es))) refl large

layer_of : (d : Doc) (es : List (Entry Doc)) (x : Doc-F Doc) → out-Doc d ≡ x → as_table d ≡ Some es → x ≡ Doc-F.Table es
layer_of d es Doc-F.Null is e = let h = rw is at e in cc
layer_of d es (Doc-F.Bool b) is e = let h = rw is at e in cc
layer_of d es (Doc-F.Int z) is e = let h = rw is at e in cc
layer_of d es (Doc-F.Text t) is e = let h = rw is at e in cc
layer_of d es (Doc-F.List ds) is e = let h = rw is at e in cc
layer_of d es (Doc-F.Table fs) is e = let h = rw is at e in let same : fs ≡ es = cc in ap Doc-F.Table same

table_of : (d : Doc) (es : List (Entry Doc)) → as_table d ≡ Some es → d ≡ doc.Table es
table_of d es e = sym (roll-out-Doc d) ∙ ap roll-Doc (layer_of d es (out-Doc d) refl e) ∙ rolls-Table es

pub large_stays : (limits : Limits) (template d : Doc) → is_too_large limits d ≡ true → is_too_large limits (with_template template d) ≡ true
large_stays limits template d large = by_table (as_table d) refl where
  by_template : (es : List (Entry Doc)) → d ≡ doc.Table es → (t : Option (List (Entry Doc))) → is_too_large limits (option_map_or (λ ts. doc.Table (with_missing ts es)) t d) ≡ true
  by_template es is None = large
  by_template es is (Some ts) = table_stays limits ts es (sym (ap (is_too_large limits) is) ∙ large)

  by_table : (o : Option (List (Entry Doc))) → as_table d ≡ o
      → is_too_large limits (option_map_or (λ es. option_map_or (λ ts. doc.Table (with_missing ts es)) (as_table template) d) o d) ≡ true
  by_table None e = large
  by_table (Some es) e = by_template es (table_of d es e) (as_table template)
