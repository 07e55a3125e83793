-- Documents beside JSON.
use Rattle.std.proofs.Common.{◌≡◌, ◌∙◌, ap, sym, subst, refl, ℕ, ◌<◌, ◌≤◌, ◌+◌, List, [], ◌∷◌, ◌++◌, map, take, length, get_or, Option, Some, None, option_map, String, Global, string_bytes, string_cmp, nat_cmp, append_assoc, Vec, BTreeMap, Less, Greater}
use Rattle.std.specs.Ordering.{ordering_reverse}
use Rattle.std.specs.Cmp.Lexicographic.{slice_cmp}
use Rattle.std.specs.List.{AllByRecursion}
use Rattle.std.specs.List.Sorted.{IsStrictlySortedBy}
use Rattle.std.specs.Map.{keys_of}
use Rattle.std.proofs.lemmas.Cmp.{nat_list_cmp_total}
use Rattle.std.proofs.lemmas.List.{take_more, take_all, map-append}
use Rattle.serde_json.specs.Data.{Data, array, object, Members, no_members, member, put}
use Rattle.serde_json.specs.View.{view, items_of, members_view}
use Rattle.serde_json.specs.declared.value.Value.{Value, Array, Object}
use Rattle.serde_json.proofs.Views.{view-Array, view-Object}
use Rattle.wf_doc.specs.declared.fields.Entry.{Entry}
use Rattle.wf_doc.specs.declared.doc.Doc.{Doc}
use Rattle.wf_doc.specs.declared.doc.Doc as doc
use Rattle.wf_doc.specs.declared.doc.Doc.TheOpen.{Doc-F}
use Rattle.wf_doc.specs.declared.doc.Doc.TheVariants.{rolls-Table}
use Rattle.wf_doc.specs.declared.doc.Doc.TheFolds.{fold-roll-Doc}
use Rattle.wf_doc.specs.Json.{data_of, data_step, members_of, doc_of, entries_of}
use Rattle.wf_doc.specs.Fields.{keys, entry, IsOrdered}
use Rattle.wf_doc.proofs.FieldLemmas.{front_in_order, ordered_take}
use Rattle.wf_doc.proofs.DocLemmas.{data_list}

abbrev pub docs_members : List (Entry Doc) → Members
docs_members [] = no_members
docs_members (e ∷ es) = member e.key (data_of e.value) (docs_members es)

abbrev pub names : List (String Global × Value) → List (List ℕ)
names ms = map (λ m. string_bytes m.0) ms

members_map : (es : List (Entry Doc)) → members_of (map (λ (e : Entry Doc). let r : Entry Data = record { key = e.key; value = data_of e.value } in r) es) ≡ docs_members es
members_map [] = refl
members_map (e ∷ es) = ap (member e.key (data_of e.value)) (members_map es)

data_table : (es : List (Entry Doc)) → data_of (doc.Table es) ≡ object (docs_members es)
data_table es = ap data_of (sym (rolls-Table es)) ∙ fold-roll-Doc Data data_step (Doc-F.Table es) ∙ ap object (members_map es)

pub list_done : (d : Doc) (ds xs : List Doc) (made : Vec Value Global) (i : ℕ) → d ≡ doc.List ds → xs ≡ ds → length xs ≤ i → map view made.items ≡ map data_of (take i xs) → view (Array made) ≡ data_of d
list_done d ds xs made i is same over so_far = view-Array made ∙ ap (λ vs. array (items_of vs)) (so_far ∙ ap (map data_of) (take_all i xs over ∙ same)) ∙ sym (data_list ds) ∙ ap data_of (sym is)

pub table_done : (d : Doc) (es xs : List (Entry Doc)) (made : BTreeMap (String Global) Value) (i : ℕ) → d ≡ doc.Table es → xs ≡ es → length xs ≤ i → members_view made.entries ≡ docs_members (take i xs)
    → view (Object made) ≡ data_of d
table_done d es xs made i is same over so_far = view-Object made ∙ ap object (so_far ∙ ap docs_members (take_all i xs over ∙ same)) ∙ sym (data_table es) ∙ ap data_of (sym is)

below_last : (k : List ℕ) (es : List (Entry Doc)) (e : Entry Doc) → AllByRecursion (λ y. slice_cmp nat_cmp k y ≡ Less) (keys (es ++ e ∷ [])) → slice_cmp nat_cmp k e.key ≡ Less
below_last k [] e a = a.0
below_last k (x ∷ es) e a = below_last k es e a.1

-- a key that is above those before it goes last
put_last : (es : List (Entry Doc)) (e : Entry Doc) → IsOrdered (es ++ e ∷ []) → put e.key (data_of e.value) (docs_members es) ≡ docs_members (es ++ e ∷ [])
unfolding IsStrictlySortedBy
put_last [] e a = refl
put_last (x ∷ es) e a =
    let above : slice_cmp nat_cmp e.key x.key ≡ Greater = nat_list_cmp_total.antisymm e.key x.key ∙ ap ordering_reverse (below_last x.key es e a.0) in
    rw above (ap (member x.key (data_of x.value)) (put_last es e a.1))

pub table_more : (es : List (Entry Doc)) (i : ℕ) (e : Entry Doc) (k : List ℕ) (d : Data) (ms : Members) → IsOrdered es → i < length es → e ≡ get_or es i e → ms ≡ docs_members (take i es) → k ≡ e.key
    → d ≡ data_of e.value → put k d ms ≡ docs_members (take (i + 1) es)
table_more es i e k d ms a within is so_far key value =
    let split : take (i + 1) es ≡ take i es ++ e ∷ [] = take_more es i e within ∙ ap (λ x. take i es ++ x ∷ []) (sym is) in
    ap (λ l. put l d ms) key ∙ ap (λ v. put e.key v ms) value ∙ ap (put e.key (data_of e.value)) so_far
    ∙ put_last (take i es) e (subst (IsOrdered {T = Doc}) split (ordered_take es (i + 1) a)) ∙ ap docs_members (sym split)

all_names : (k : String Global) (ms : List (String Global × Value)) → AllByRecursion (λ y. string_cmp k y ≡ Less) (keys_of ms) → AllByRecursion (λ y. slice_cmp nat_cmp (string_bytes k) y ≡ Less) (names ms)
all_names k [] a = tt
all_names k (m ∷ ms) a = (a.0, all_names k ms a.1)

names_ordered : (ms : List (String Global × Value)) → IsStrictlySortedBy string_cmp (keys_of ms) → IsStrictlySortedBy (slice_cmp nat_cmp) (names ms)
unfolding IsStrictlySortedBy
names_ordered [] a = tt
names_ordered (m ∷ ms) a = (all_names m.0 ms a.0, names_ordered ms a.1)

none_before : (o : Option (List (Entry Doc))) (none : List (Entry Doc)) → none ≡ [] → o ≡ option_map (λ rest. none ++ rest) o
none_before None none e = refl
none_before (Some es) none e = ap (λ xs. Some (xs ++ es)) (sym e)

abbrev pub Goes : List (String Global × Value) → List (Entry Doc) → List (String Global × Value) → Type 0
Goes all made rest = (entries_of (members_view all) ≡ option_map (λ es. made ++ es) (entries_of (members_view rest))) × IsStrictlySortedBy (slice_cmp nat_cmp) (keys made ++ names rest)

pub goes_from : (all rest : List (String Global × Value)) (made : List (Entry Doc)) → rest ≡ all → made ≡ [] → IsStrictlySortedBy string_cmp (keys_of all) → Goes all made rest
goes_from all rest made same none a = (
  none_before (entries_of (members_view all)) made none ∙ ap (λ ms. option_map (λ es. made ++ es) (entries_of (members_view ms))) (sym same),
  subst (IsStrictlySortedBy (slice_cmp nat_cmp)) (ap names (sym same) ∙ ap (λ es. keys es ++ names rest) (sym none)) (names_ordered all a),
)

pub goes_last : (all left : List (String Global × Value)) (made : List (Entry Doc)) (m : String Global × Value) (rest : List (String Global × Value)) (k : List ℕ) (d : Doc) → rest ≡ m ∷ left → k ≡ string_bytes m.0
    → Goes all made rest → IsOrdered (made ++ entry k d ∷ [])
goes_last all left made m rest k d is key g = front_in_order (slice_cmp nat_cmp) (keys (made ++ entry k d ∷ [])) (names left)
    (subst (IsStrictlySortedBy (slice_cmp nat_cmp)) (ap (λ ms. keys made ++ names ms) is ∙ ap (λ x. keys made ++ x ∷ names left) (sym key) ∙ sym (append_assoc (keys made) (k ∷ []) (names left)) ∙ ap (λ ks. ks ++ names left) (sym (map-append (λ e. e.key) made (entry k d ∷ [])))) g.1)

one_more : (o : Option (List (Entry Doc))) (made : List (Entry Doc)) (e : Entry Doc) → option_map (λ es. made ++ es) (option_map (λ es. e ∷ es) o) ≡ option_map (λ es. (made ++ e ∷ []) ++ es) o
one_more None made e = refl
one_more (Some es) made e = ap Some (sym (append_assoc made (e ∷ []) es))

pub goes_more : (all left : List (String Global × Value)) (made new : List (Entry Doc)) (m : String Global × Value) (rest : List (String Global × Value)) (k : List ℕ) (d : Doc) → rest ≡ m ∷ left → k ≡ string_bytes m.0
    → doc_of (view m.1) ≡ Some d → new ≡ made ++ entry k d ∷ [] → Goes all made rest → Goes all new left
goes_more all left made new m rest k d is key read so g = (
  g.0 ∙ ap (λ ms. option_map (λ es. made ++ es) (entries_of (members_view ms))) is ∙ rw read (ap (λ l. option_map (λ es. made ++ es) (option_map (λ es. entry l d ∷ es) (entries_of (members_view left)))) (sym key))
      ∙ one_more (entries_of (members_view left)) made (entry k d) ∙ ap (λ xs. option_map (λ es. xs ++ es) (entries_of (members_view left))) (sym so),
  subst (IsStrictlySortedBy (slice_cmp nat_cmp)) (ap (λ ms. keys made ++ names ms) is ∙ ap (λ x. keys made ++ x ∷ names left) (sym key) ∙ sym (append_assoc (keys made) (k ∷ []) (names left)) ∙ ap (λ ks. ks ++ names left) (sym (map-append (λ e. e.key) made (entry k d ∷ [])) ∙ ap keys (sym so))) g.1,
)
