-- What serde_json writes for a document is its printed text.
use Rattle.std.proofs.Common.{◌≡◌, ◌∙◌, ap, sym, subst, refl, ℕ, List, [], ◌∷◌, ◌++◌, map, append_assoc, true, false, pos, negsuc}
use Rattle.std.specs.List.{join_with_byte}
use Rattle.json.specs.Print.{quoted}
use Rattle.serde_json.specs.Data.{Data}
use Rattle.serde_json.specs.View.{items_of}
use Rattle.serde_json.specs.Written.{compact_text, items_text, members_text}
use Rattle.wf_doc.specs.declared.fields.Entry.{Entry}
use Rattle.wf_doc.specs.declared.doc.Doc.{Doc}
use Rattle.wf_doc.specs.declared.doc.Doc.TheOpen.{Doc-F}
use Rattle.wf_doc.specs.declared.doc.Doc.TheFolds.{map-Doc, fold-roll-Doc, ind-Doc}
use Rattle.wf_doc.specs.Json.{data_of, data_step, members_of, member_text, printed, printed_step}

abbrev IsWritten : Doc → Type 0
IsWritten d = compact_text (data_of d) ≡ printed d

abbrev Child : Type 0
Child = (d : Doc) × IsWritten d

abbrev datas : List Child → List Data
datas es = map data_of (map (λ (e : Child). e.0) es)

abbrev texts : List Child → List (List ℕ)
texts es = map printed (map (λ (e : Child). e.0) es)

-- the items from one on, with the closing bracket
items_from : (e : Child) (es : List Child) → compact_text (data_of e.0) ++ items_text true (items_of (datas es)) ≡ join_with_byte 44 (printed e.0 ∷ texts es) ++ 93 ∷ []
items_from e [] = ap (λ t. t ++ 93 ∷ []) e.1
items_from e (f ∷ es) = ap (λ t. t ++ 44 ∷ (compact_text (data_of f.0) ++ items_text true (items_of (datas es)))) e.1
    ∙ ap (λ t. printed e.0 ++ 44 ∷ t) (items_from f es) ∙ sym (append_assoc (printed e.0) (44 ∷ join_with_byte 44 (printed f.0 ∷ texts es)) (93 ∷ []))

items : (es : List Child) → items_text false (items_of (datas es)) ≡ join_with_byte 44 (texts es) ++ 93 ∷ []
items [] = refl
items (e ∷ es) = items_from e es

abbrev bare : Entry Child → Entry Doc
bare e = record { key = e.key; value = e.value.0 }

abbrev with_data : Entry Doc → Entry Data
with_data e = record { key = e.key; value = data_of e.value }

abbrev with_text : Entry Doc → Entry (List ℕ)
with_text e = record { key = e.key; value = printed e.value }

abbrev entry_datas : List (Entry Child) → List (Entry Data)
entry_datas es = map with_data (map bare es)

abbrev entry_texts : List (Entry Child) → List (List ℕ)
entry_texts es = map member_text (map with_text (map bare es))

-- a key, a colon, a value, and what follows
one_member : (k t u rest : List ℕ) → t ≡ u → quoted k ++ 58 ∷ (t ++ rest) ≡ (quoted k ++ 58 ∷ u) ++ rest
one_member k t u rest e = ap (λ v. quoted k ++ 58 ∷ (v ++ rest)) e ∙ sym (append_assoc (quoted k) (58 ∷ u) rest)

members_from : (e : Entry Child) (es : List (Entry Child)) → quoted e.key ++ 58 ∷ (compact_text (data_of e.value.0) ++ members_text true (members_of (entry_datas es)))
    ≡ join_with_byte 44 (member_text (with_text (bare e)) ∷ entry_texts es) ++ 125 ∷ []
members_from e [] = one_member e.key (compact_text (data_of e.value.0)) (printed e.value.0) (125 ∷ []) e.value.1
members_from e (f ∷ es) = one_member e.key (compact_text (data_of e.value.0)) (printed e.value.0) _ e.value.1
    ∙ ap (λ t. member_text (with_text (bare e)) ++ 44 ∷ t) (members_from f es)
    ∙ sym (append_assoc (member_text (with_text (bare e))) (44 ∷ join_with_byte 44 (member_text (with_text (bare f)) ∷ entry_texts es)) (125 ∷ []))

members : (es : List (Entry Child)) → members_text false (members_of (entry_datas es)) ≡ join_with_byte 44 (entry_texts es) ++ 125 ∷ []
members [] = refl
members (e ∷ es) = members_from e es

step : (y : Doc-F Child) → compact_text (data_step (map-Doc Doc Data data_of (map-Doc Child Doc (λ e. e.0) y))) ≡ printed_step (map-Doc Doc (List ℕ) printed (map-Doc Child Doc (λ e. e.0) y))
step Doc-F.Null = refl
step (Doc-F.Bool true) = refl
step (Doc-F.Bool false) = refl
step (Doc-F.Int (pos n)) = refl
step (Doc-F.Int (negsuc n)) = refl
step (Doc-F.Text t) = refl
step (Doc-F.List ds) = ap (λ t. 91 ∷ t) (items ds)
step (Doc-F.Table es) = ap (λ t. 123 ∷ t) (members es)

pub compact_text-data_of : (d : Doc) → compact_text (data_of d) ≡ printed d
compact_text-data_of = ind-Doc IsWritten (λ x y is. ap compact_text (fold-roll-Doc Data data_step x)
    ∙ subst (λ z. compact_text (data_step (map-Doc Doc Data data_of z)) ≡ printed_step (map-Doc Doc (List ℕ) printed z)) is (step y) ∙ sym (fold-roll-Doc (List ℕ) printed_step x))
