-- The equations of the folds over documents.
use Rattle.std.proofs.Common.{◌≡◌, ◌∙◌, ap, sym, refl, ℕ, suc, max, List, [], ◌∷◌, ◌++◌, map, arith, ◌+◌, ◌<◌, take, length, get_or, ◌≤◌}
use Rattle.std.proofs.lemmas.List.{take_more, map-append, take_all}
use Rattle.serde_json.specs.Data.{Data, array}
use Rattle.serde_json.specs.View.{items_of}
use Rattle.wf_doc.specs.declared.fields.Entry.{Entry}
use Rattle.wf_doc.specs.declared.doc.Doc.{Doc}
use Rattle.wf_doc.specs.declared.doc.Doc as doc
use Rattle.wf_doc.specs.declared.doc.Doc.TheOpen.{Doc-F}
use Rattle.wf_doc.specs.declared.doc.Doc.TheVariants.{rolls-List, rolls-Table}
use Rattle.wf_doc.specs.declared.doc.Doc.TheFolds.{fold-roll-Doc}
use Rattle.wf_doc.specs.Doc.{depth, depth_step, largest}
use Rattle.wf_doc.specs.Json.{data_of, data_step}

pub depth_list : (ds : List Doc) → depth (doc.List ds) ≡ suc (largest (map depth ds))
depth_list ds = ap depth (sym (rolls-List ds)) ∙ fold-roll-Doc ℕ depth_step (Doc-F.List ds)

values_map : (es : List (Entry Doc)) → map (λ (e : Entry ℕ). e.value) (map (λ (e : Entry Doc). let r : Entry ℕ = record { key = e.key; value = depth e.value } in r) es) ≡ map (λ (e : Entry Doc). depth e.value) es
values_map [] = refl
values_map (e ∷ es) = ap (λ ns. depth e.value ∷ ns) (values_map es)

pub depth_table : (es : List (Entry Doc)) → depth (doc.Table es) ≡ suc (largest (map (λ e. depth e.value) es))
depth_table es = ap depth (sym (rolls-Table es)) ∙ fold-roll-Doc ℕ depth_step (Doc-F.Table es) ∙ ap (λ ns. suc (largest ns)) (values_map es)

pub data_list : (ds : List Doc) → data_of (doc.List ds) ≡ array (items_of (map data_of ds))
data_list ds = ap data_of (sym (rolls-List ds)) ∙ fold-roll-Doc Data data_step (Doc-F.List ds)

pub largest_push : (ns : List ℕ) (n : ℕ) → largest (ns ++ n ∷ []) ≡ max (largest ns) n
largest_push [] n = omega arith
largest_push (m ∷ ns) n = ap (max m) (largest_push ns n) ∙ omega arith

pub most_more : {A : Type 0} (f : A → ℕ) (xs : List A) (i : ℕ) (x : A) → i < length xs → x ≡ get_or xs i x
    → largest (map f (take (i + 1) xs)) ≡ max (largest (map f (take i xs))) (f x)
most_more f xs i x within is = ap (λ ys. largest (map f ys)) (take_more xs i x within)
    ∙ ap largest (map-append f (take i xs) (get_or xs i x ∷ [])) ∙ largest_push (map f (take i xs)) (f (get_or xs i x)) ∙ ap (λ y. max (largest (map f (take i xs))) (f y)) (sym is)

pub depth_list_all : (d : Doc) (ds xs : List Doc) (i : ℕ) → d ≡ doc.List ds → xs ≡ ds → length xs ≤ i → depth d ≡ suc (largest (map depth (take i xs)))
depth_list_all d ds xs i is same over = ap depth is ∙ depth_list ds ∙ ap (λ ys. suc (largest (map depth ys))) (sym same ∙ sym (take_all i xs over))

pub depth_table_all : (d : Doc) (es xs : List (Entry Doc)) (i : ℕ) → d ≡ doc.Table es → xs ≡ es → length xs ≤ i → depth d ≡ suc (largest (map (λ e. depth e.value) (take i xs)))
depth_table_all d es xs i is same over = ap depth is ∙ depth_table es ∙ ap (λ ys. suc (largest (map (λ e. depth e.value) ys))) (sym same ∙ sym (take_all i xs over))
