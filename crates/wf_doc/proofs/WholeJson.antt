-- A JSON text in which the scan finds no fault is a document: its numbers are whole, through the tokens, the tree and the values.
use Rattle.std.proofs.Common.{◌≡◌, ◌∙◌, ap, sym, subst, refl, ℕ, zero, suc, Bool, true, false, List, [], ◌∷◌, length, Option, Some, None, option_map, option_and_then}
use Rattle.std.specs.Prelude.{⊤}
use Rattle.std.specs.Ordering.{nat_cmp, match_ordering}
use Rattle.std.specs.declared.cmp.Ordering.{Ordering}
use Rattle.std.specs.declared.cmp.Ordering.TheVariants.{Less, Equal, Greater}
use Rattle.std.specs.Cmp.Lexicographic.{slice_cmp}
use Rattle.json.specs.Token.{Token, begin_object, end_object, begin_array, end_array, key, string, number, boolean, null, bad}
use Rattle.json.specs.Lex.{Lexeme, token, comma, colon, between, lex, Place, fresh, after_value, after_comma, after_key, begins_colon, may_begin, may_close, if_allowed, place_token, punctuate, tokens}
use Rattle.json.specs.Json.{Json, array, object, Items, no_items, item, Members, no_members, member, Parse, parse_map, after_end_array, read_key, items_step, members_step, items, members, value_with, value, if_last}
use Rattle.json.specs.Json as json
use Rattle.serde_json.specs.Data.{Data, Num}
use Rattle.serde_json.specs.Data as values
use Rattle.serde_json.specs.Find.{as_i64}
use Rattle.serde_json.specs.Read.{number_of, of_json, of_items, of_members, read, max_depth}
use Rattle.wf_doc.specs.declared.fields.Entry.{Entry}
use Rattle.wf_doc.specs.declared.doc.Doc.{Doc}
use Rattle.wf_doc.specs.declared.doc.Doc as doc
use Rattle.wf_doc.specs.declared.scan.Place.TheVariants.{Outside}
use Rattle.wf_doc.specs.Json.{doc_of, docs_of, entries_of}
use Rattle.wf_doc.specs.Scan.{first_fault}
use Rattle.wf_doc.proofs.WholeNumbers.{HasWhole}
use Rattle.wf_doc.proofs.WholeTokens.{LexemesFit, After, LexemesFit-lex}

-- ---- tokens

abbrev Fits : Token → Type 0
Fits begin_object = ⊤
Fits end_object = ⊤
Fits begin_array = ⊤
Fits end_array = ⊤
Fits (key s) = ⊤
Fits (string s) = ⊤
Fits (number s) = HasWhole s
Fits (boolean b) = ⊤
Fits null = ⊤
Fits bad = ⊤

abbrev TokensFit : List Token → Type 0
TokensFit [] = ⊤
TokensFit (t ∷ ts) = Fits t × TokensFit ts

allowed : (b : Bool) (t : Token) (k : Place → List Token) (next : Place) → Fits t → TokensFit (k next) → TokensFit (if_allowed b t k next)
allowed true t k next p q = (p, q)
allowed false t k next p q = (tt, tt)

placed : (p : Place) (t : Token) (b : Bool) (k : Place → List Token) (P : Type 0) → After t P → (P → (n : Place) → TokensFit (k n)) → TokensFit (place_token p t b k)
placed p begin_object b k P a h = allowed (may_begin p) begin_object k fresh tt (h a fresh)
placed p end_object b k P a h = allowed (may_close p) end_object k after_value tt (h a after_value)
placed p begin_array b k P a h = allowed (may_begin p) begin_array k fresh tt (h a fresh)
placed p end_array b k P a h = allowed (may_close p) end_array k after_value tt (h a after_value)
placed p (key s) b k P a h = (tt, tt)
placed p (string s) true k P a h = allowed (may_begin p) (key s) k after_key tt (h a after_key)
placed p (string s) false k P a h = allowed (may_begin p) (string s) k after_value tt (h a after_value)
placed p (number s) b k P a h = allowed (may_begin p) (number s) k after_value a.0 (h a.1 after_value)
placed p (boolean v) b k P a h = allowed (may_begin p) (boolean v) k after_value tt (h a after_value)
placed p null b k P a h = allowed (may_begin p) null k after_value tt (h a after_value)
placed p bad b k P a h = (tt, tt)

TokensFit-punctuate : (ls : List Lexeme) → LexemesFit ls → (p : Place) → TokensFit (punctuate p ls)
unfolding punctuate
TokensFit-punctuate [] h fresh = tt
TokensFit-punctuate [] h after_value = tt
TokensFit-punctuate [] h after_comma = (tt, tt)
TokensFit-punctuate [] h after_key = (tt, tt)
TokensFit-punctuate (token t ∷ ls) h p = placed p t (begins_colon ls) (λ n. punctuate n ls) (LexemesFit ls) h (TokensFit-punctuate ls)
TokensFit-punctuate (comma ∷ ls) h fresh = (tt, tt)
TokensFit-punctuate (comma ∷ ls) h after_value = TokensFit-punctuate ls h after_comma
TokensFit-punctuate (comma ∷ ls) h after_comma = (tt, tt)
TokensFit-punctuate (comma ∷ ls) h after_key = (tt, tt)
TokensFit-punctuate (colon ∷ ls) h fresh = (tt, tt)
TokensFit-punctuate (colon ∷ ls) h after_value = (tt, tt)
TokensFit-punctuate (colon ∷ ls) h after_comma = (tt, tt)
TokensFit-punctuate (colon ∷ ls) h after_key = TokensFit-punctuate ls h fresh

-- ---- trees

abbrev mutual
  TreeFits : Json → Type 0
  TreeFits json.null = ⊤
  TreeFits (json.boolean b) = ⊤
  TreeFits (json.number s) = HasWhole s
  TreeFits (json.string s) = ⊤
  TreeFits (array js) = ItemsFit js
  TreeFits (object ms) = MembersFit ms

  ItemsFit : Items → Type 0
  ItemsFit no_items = ⊤
  ItemsFit (item j js) = TreeFits j × ItemsFit js

  MembersFit : Members → Type 0
  MembersFit no_members = ⊤
  MembersFit (member k j ms) = TreeFits j × MembersFit ms

abbrev Gives : {A : Type 0} → (A → Type 0) → Option (A × List Token) → Type 0
Gives Q None = ⊤
Gives Q (Some p) = Q p.0 × TokensFit p.1

abbrev Keeps : {A : Type 0} → (A → Type 0) → Parse A → Type 0
Keeps Q p = (ts : List Token) → TokensFit ts → Gives Q (p ts)

mapped : {A B : Type 0} (P : A → Type 0) (Q : B → Type 0) (f : A → B) → ((a : A) → P a → Q (f a)) → (o : Option (A × List Token)) → Gives P o → Gives Q (parse_map f o)
mapped P Q f g None h = tt
mapped P Q f g (Some p) h = (g p.0 h.0, h.1)

and_more : {B : Type 0} (Q : B → Type 0) (f : Json → B → B) → ((j : Json) (b : B) → TreeFits j → Q b → Q (f j b)) → (more : Parse B) → Keeps Q more
    → (o : Option (Json × List Token)) → Gives TreeFits o → Gives Q (option_and_then (λ q. parse_map (f q.0) (more q.1)) o)
and_more Q f g more keeps None h = tt
and_more Q f g more keeps (Some q) h = mapped Q Q (f q.0) (λ b. g q.0 b h.0) _ (keeps q.1 h.1)

abbrev Rest : Option (List Token) → Type 0
Rest None = ⊤
Rest (Some r) = TokensFit r

closing : (ts : List Token) → TokensFit ts → Rest (after_end_array ts)
closing [] h = tt
closing (begin_object ∷ ts) h = tt
closing (end_object ∷ ts) h = tt
closing (begin_array ∷ ts) h = tt
closing (end_array ∷ ts) h = h.1
closing (key s ∷ ts) h = tt
closing (string s ∷ ts) h = tt
closing (number s ∷ ts) h = tt
closing (boolean v ∷ ts) h = tt
closing (null ∷ ts) h = tt
closing (bad ∷ ts) h = tt

naming : Keeps (λ (k : Option (List ℕ)). ⊤) read_key
naming [] h = tt
naming (begin_object ∷ ts) h = tt
naming (end_object ∷ ts) h = (tt, h.1)
naming (begin_array ∷ ts) h = tt
naming (end_array ∷ ts) h = tt
naming (key s ∷ ts) h = (tt, h.1)
naming (string s ∷ ts) h = tt
naming (number s ∷ ts) h = tt
naming (boolean v ∷ ts) h = tt
naming (null ∷ ts) h = tt
naming (bad ∷ ts) h = tt

module _ (p : Parse Json) (keeps : Keeps TreeFits p) where
  item_turn : (more : Parse Items) → Keeps ItemsFit more → (ts : List Token) → TokensFit ts → (o : Option (List Token)) → Rest o → Gives ItemsFit (items_step p more ts o)
  item_turn more again ts h (Some r) q = (tt, q)
  item_turn more again ts h None q = and_more ItemsFit item (λ j b x y. (x, y)) more again (p ts) (keeps ts h)

  Keeps-items : (n : ℕ) → Keeps ItemsFit (items p n)
  unfolding items
  Keeps-items zero ts h = tt
  Keeps-items (suc n) ts h = item_turn (items p n) (Keeps-items n) ts h (after_end_array ts) (closing ts h)

  member_turn : (more : Parse Members) → Keeps MembersFit more → (o : Option (Option (List ℕ) × List Token)) → Gives (λ (k : Option (List ℕ)). ⊤) o
      → Gives MembersFit (option_and_then (λ q. members_step p more q.0 q.1) o)
  member_turn more again None h = tt
  member_turn more again (Some (None, s)) h = (tt, h.1)
  member_turn more again (Some (Some k, s)) h = and_more MembersFit (member k) (λ j b x y. (x, y)) more again (p s) (keeps s h.1)

  Keeps-members : (n : ℕ) → Keeps MembersFit (members p n)
  unfolding members
  Keeps-members zero ts h = tt
  Keeps-members (suc n) ts h = member_turn (members p n) (Keeps-members n) (read_key ts) (naming ts h)

Keeps-value_with : (a : Parse Items) (o : Parse Members) → Keeps ItemsFit a → Keeps MembersFit o → Keeps TreeFits (value_with a o)
Keeps-value_with a o p q [] h = tt
Keeps-value_with a o p q (begin_object ∷ ts) h = mapped MembersFit TreeFits object (λ m x. x) _ (q ts h.1)
Keeps-value_with a o p q (end_object ∷ ts) h = tt
Keeps-value_with a o p q (begin_array ∷ ts) h = mapped ItemsFit TreeFits array (λ m x. x) _ (p ts h.1)
Keeps-value_with a o p q (end_array ∷ ts) h = tt
Keeps-value_with a o p q (key s ∷ ts) h = tt
Keeps-value_with a o p q (string s ∷ ts) h = h
Keeps-value_with a o p q (number s ∷ ts) h = h
Keeps-value_with a o p q (boolean v ∷ ts) h = h
Keeps-value_with a o p q (null ∷ ts) h = h
Keeps-value_with a o p q (bad ∷ ts) h = tt

Keeps-value : (depth : ℕ) → Keeps TreeFits (value depth)
unfolding value
Keeps-value zero = Keeps-value_with (λ ts. None) (λ ts. None) (λ ts h. tt) (λ ts h. tt)
Keeps-value (suc d) =
    Keeps-value_with (λ ts. items (value d) (length ts) ts) (λ ts. members (value d) (length ts) ts)
    (λ ts. Keeps-items (value d) (Keeps-value d) (length ts) ts) (λ ts. Keeps-members (value d) (Keeps-value d) (length ts) ts)

-- ---- data

abbrev IsDocument : Data → Type 0
IsDocument j = (d : Doc) × (doc_of j ≡ Some d)

abbrev AreDocuments : values.Items → Type 0
AreDocuments js = (ds : List Doc) × (docs_of js ≡ Some ds)

abbrev AreEntries : values.Members → Type 0
AreEntries ms = (es : List (Entry Doc)) × (entries_of ms ≡ Some es)

abbrev entry : List ℕ → Doc → Entry Doc
entry k d = record { key = k; value = d }

whole_item : (j : Data) (js : values.Items) → IsDocument j → AreDocuments js → AreDocuments (values.item j js)
whole_item j js d ds = (d.0 ∷ ds.0, ap (λ o. option_and_then (λ x. option_map (λ xs. x ∷ xs) (docs_of js)) o) d.1 ∙ ap (option_map (λ xs. d.0 ∷ xs)) ds.1)

whole_member : (k : List ℕ) (j : Data) (ms : values.Members) → IsDocument j → AreEntries ms → AreEntries (values.member k j ms)
whole_member k j ms d es = (entry k d.0 ∷ es.0, ap (λ o. option_and_then (λ x. option_map (λ xs. entry k x ∷ xs) (entries_of ms)) o) d.1 ∙ ap (option_map (λ xs. entry k d.0 ∷ xs)) es.1)

-- the parts of members that are entries
first_value : (k : List ℕ) (j : Data) (ms : values.Members) → AreEntries (values.member k j ms) → IsDocument j
first_value k j ms es = by (doc_of j) refl es.1
  where
    by : (o : Option Doc) → doc_of j ≡ o → option_and_then (λ x. option_map (λ xs. entry k x ∷ xs) (entries_of ms)) o ≡ Some es.0 → IsDocument j
    by None is e = absurd (cc)
    by (Some d) is e = (d, is)

other_entries : (k : List ℕ) (j : Data) (ms : values.Members) → AreEntries (values.member k j ms) → AreEntries ms
other_entries k j ms es = by (doc_of j) (entries_of ms) refl es.1
  where
    by : (o : Option Doc) (p : Option (List (Entry Doc))) → entries_of ms ≡ p → option_and_then (λ x. option_map (λ xs. entry k x ∷ xs) p) o ≡ Some es.0 → AreEntries ms
    by None p is e = absurd (cc)
    by (Some d) None is e = absurd (cc)
    by (Some d) (Some xs) is e = (xs, is)

put_at : (k l : List ℕ) (j e : Data) (ms : values.Members) (o : Ordering) → IsDocument j → AreEntries (values.member l e ms) → AreEntries (values.put k j ms)
    → AreEntries (match_ordering o (values.member k j (values.member l e ms)) (values.member l j ms) (values.member l e (values.put k j ms)))
put_at k l j e ms Less d es more = whole_member k j (values.member l e ms) d es
put_at k l j e ms Equal d es more = whole_member l j ms d (other_entries l e ms es)
put_at k l j e ms Greater d es more = whole_member l e (values.put k j ms) (first_value l e ms es) more

whole_put : (k : List ℕ) (j : Data) (ms : values.Members) → IsDocument j → AreEntries ms → AreEntries (values.put k j ms)
whole_put k j values.no_members d es = whole_member k j values.no_members d ([], refl)
whole_put k j (values.member l e ms) d es = put_at k l j e ms (slice_cmp nat_cmp k l) d es (whole_put k j ms d (other_entries l e ms es))

-- what was read of a tree whose numbers are whole
abbrev Whole : {A : Type 0} → (A → Type 0) → Option A → Type 0
Whole Q None = ⊤
Whole Q (Some a) = Q a

whole_number : (s : List ℕ) (o : Option Num) → number_of s ≡ o → HasWhole s → Whole IsDocument (option_map values.number o)
whole_number s None is h = tt
whole_number s (Some n) is h = (doc.Int h.0, ap (option_map doc.Int) (ap (option_and_then as_i64) (sym is) ∙ h.1))

whole_map : {A B : Type 0} (P : A → Type 0) (Q : B → Type 0) (f : A → B) → ((a : A) → P a → Q (f a)) → (o : Option A) → Whole P o → Whole Q (option_map f o)
whole_map P Q f g None h = tt
whole_map P Q f g (Some a) h = g a h

whole_pair : (o : Option Data) (p : Option values.Items) → Whole IsDocument o → Whole AreDocuments p → Whole AreDocuments (option_and_then (λ d. option_map (values.item d) p) o)
whole_pair None p h q = tt
whole_pair (Some j) p h q = whole_map AreDocuments AreDocuments (values.item j) (λ js ds. whole_item j js h ds) p q

whole_then : (o : Option Data) (f : Data → Option values.Members) → Whole IsDocument o → ((j : Data) → IsDocument j → Whole AreEntries (f j)) → Whole AreEntries (option_and_then f o)
whole_then None f h g = tt
whole_then (Some j) f h g = g j h

mutual
  whole_tree : (j : Json) → TreeFits j → Whole IsDocument (of_json j)
  whole_tree json.null h = (doc.Null, refl)
  whole_tree (json.boolean b) h = (doc.Bool b, refl)
  whole_tree (json.number s) h = whole_number s (number_of s) refl h
  whole_tree (json.string s) h = (doc.Text s, refl)
  whole_tree (array js) h = whole_map AreDocuments IsDocument values.array (λ js ds. (doc.List ds.0, ap (option_map doc.List) ds.1)) (of_items js) (whole_items js h)
  whole_tree (object ms) h = whole_map AreEntries IsDocument values.object (λ ms es. (doc.Table es.0, ap (option_map doc.Table) es.1)) (of_members ms values.no_members) (whole_members ms values.no_members h ([], refl))

  whole_items : (js : Items) → ItemsFit js → Whole AreDocuments (of_items js)
  whole_items no_items h = ([], refl)
  whole_items (item j js) h = whole_pair (of_json j) (of_items js) (whole_tree j h.0) (whole_items js h.1)

  whole_members : (ms : Members) (found : values.Members) → MembersFit ms → AreEntries found → Whole AreEntries (of_members ms found)
  whole_members no_members found h es = es
  whole_members (member k j ms) found h es = whole_then (of_json j) _ (whole_tree j h.0) (λ d is. whole_members ms (values.put k d found) h.1 (whole_put k d found is es))

-- ---- the whole text

last : (o : Option (Json × List Token)) → Gives TreeFits o → Whole TreeFits (option_and_then (λ p. if_last p.0 p.1) o)
last None h = tt
last (Some (j, [])) h = h.0
last (Some (j, t ∷ ts)) h = tt

whole_read : (o : Option Json) → Whole TreeFits o → Whole IsDocument (option_and_then of_json o)
whole_read None h = tt
whole_read (Some j) h = whole_tree j h

-- where the scan finds no fault, JSON data is a document
pub scanned_is_document : (bytes : List ℕ) (j : Data) → first_fault Outside bytes ≡ None → read bytes ≡ Some j → IsDocument j
scanned_is_document bytes j none e =
    subst (Whole IsDocument) e (whole_read _ (last _ (Keeps-value max_depth (tokens bytes) (TokensFit-punctuate (lex between bytes) (LexemesFit-lex bytes Outside between tt none) fresh))))
