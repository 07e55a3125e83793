-- No document has a float.
use Rattle.std.proofs.Common.{◌≡◌, ◌∙◌, ap, subst, refl, ℤ, pos, negsuc, List, [], ◌∷◌, map, false}
use Rattle.serde_json.specs.Data.{Data}
use Rattle.serde_json.specs.Find.{is_float, of_integer}
use Rattle.serde_json.specs.View.{items_of}
use Rattle.serde_json.specs.Written.{has_float, items_have_float, members_have_float}
use Rattle.wf_doc.specs.declared.fields.Entry.{Entry}
use Rattle.wf_doc.specs.declared.doc.Doc.{Doc}
use Rattle.wf_doc.specs.declared.doc.Doc.TheOpen.{Doc-F}
use Rattle.wf_doc.specs.declared.doc.Doc.TheFolds.{map-Doc, fold-roll-Doc, ind-Doc}
use Rattle.wf_doc.specs.Json.{data_of, data_step, members_of}

abbrev pub IsFloatless : Doc → Type 0
IsFloatless d = has_float (data_of d) ≡ false

abbrev Child : Type 0
Child = (d : Doc) × IsFloatless d

whole : (z : ℤ) → is_float (of_integer z) ≡ false
whole (pos n) = refl
whole (negsuc n) = refl

items : (es : List Child) → items_have_float (items_of (map data_of (map (λ (e : Child). e.0) es))) ≡ false
items [] = refl
items (e ∷ es) = rw (e.1, items es) refl

abbrev bare : Entry Child → Entry Doc
bare e = record { key = e.key; value = e.value.0 }

abbrev seen : Entry Doc → Entry Data
seen e = record { key = e.key; value = data_of e.value }

members : (es : List (Entry Child)) → members_have_float (members_of (map seen (map bare es))) ≡ false
members [] = refl
members (e ∷ es) = rw (e.value.1, members es) refl

step : (y : Doc-F Child) → has_float (data_step (map-Doc Doc Data data_of (map-Doc Child Doc (λ e. e.0) y))) ≡ false
step Doc-F.Null = refl
step (Doc-F.Bool b) = refl
step (Doc-F.Int z) = whole z
step (Doc-F.Text t) = refl
step (Doc-F.List ds) = items ds
step (Doc-F.Table es) = members es

pub floatless : (d : Doc) → IsFloatless d
floatless = ind-Doc IsFloatless (λ x y is. ap has_float (fold-roll-Doc Data data_step x) ∙ subst (λ z. has_float (data_step (map-Doc Doc Data data_of z)) ≡ false) is (step y))
