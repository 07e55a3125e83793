-- The lengths of printed texts.
use Rattle.std.proofs.Common.{◌≡◌, ◌∙◌, ap, sym, refl, ℕ, suc, ◌+◌, ◌/◌, ◌^◌, ◌<◌, ◌≤◌, max, List, [], ◌∷◌, ◌++◌, length, map, take, length-append, arith}
use Rattle.std.specs.List.{join_with_byte, sum_by}
use Rattle.std.proofs.lemmas.List.Sums.{sum_by-cons}
use Rattle.std.specs.Fmt.{decimal}
use Rattle.std.proofs.lemmas.Fmt.{decimal_digit, decimal_step, length-decimal-le}
use Rattle.std.proofs.lemmas.List.{take_all}
use Rattle.json.specs.Print.{quoted}
use Rattle.wf_doc.specs.declared.fields.Entry.{Entry}
use Rattle.wf_doc.specs.declared.doc.Doc.{Doc}
use Rattle.wf_doc.specs.declared.doc.Doc as doc
use Rattle.wf_doc.specs.declared.doc.Doc.TheOpen.{Doc-F}
use Rattle.wf_doc.specs.declared.doc.Doc.TheVariants.{rolls-List, rolls-Table}
use Rattle.wf_doc.specs.declared.doc.Doc.TheFolds.{fold-roll-Doc}
use Rattle.wf_doc.specs.Json.{member_text, printed, printed_step}

pub one_digit : (n : ℕ) → n < 10 → length (decimal n) ≡ 1
one_digit n small = ap length (decimal_digit n small)

pub more_digits : (n : ℕ) → 10 ≤ n → n < 2 ^ 64 → length (decimal n) ≡ length (decimal (n / 10)) + 1
more_digits n large small = ap length (decimal_step n large small) ∙ length-append (decimal (n / 10)) _

pub few_digits : (n : ℕ) → n < 2 ^ 64 → length (decimal n) ≤ 20
few_digits n small = length-decimal-le 20 n (omega arith) (omega arith) small

-- parts with a comma between them, and a byte more
pub length-joined : {A : Type 0} (f : A → List ℕ) (x : A) (xs : List A) → length (join_with_byte 44 (map f (x ∷ xs))) + 1 ≡ sum_by (λ y. length (f y) + 1) (x ∷ xs)
length-joined f x [] = omega (arith, sum_by-cons (λ y. length (f y) + 1) x [])
length-joined f x (y ∷ ys) =
    let first : length (join_with_byte 44 (map f (x ∷ y ∷ ys))) ≡ length (f x) + suc (length (join_with_byte 44 (map f (y ∷ ys)))) = length-append (f x) (44 ∷ join_with_byte 44 (map f (y ∷ ys))) in
    omega (arith, first, sum_by-cons (λ z. length (f z) + 1) x (y ∷ ys), length-joined f y ys)

-- the same between brackets
pub length-bracketed : {A : Type 0} (f : A → List ℕ) (open_byte close_byte : ℕ) (xs : List A)
    → length (open_byte ∷ (join_with_byte 44 (map f xs) ++ close_byte ∷ [])) ≡ max (1 + sum_by (λ y. length (f y) + 1) xs) 2
length-bracketed f o c [] = refl
length-bracketed f o c (x ∷ xs) = omega (arith, length-append (join_with_byte 44 (map f (x ∷ xs))) (c ∷ []), length-joined f x xs)

printed_list : (ds : List Doc) → printed (doc.List ds) ≡ 91 ∷ (join_with_byte 44 (map printed ds) ++ 93 ∷ [])
printed_list ds = ap printed (sym (rolls-List ds)) ∙ fold-roll-Doc (List ℕ) printed_step (Doc-F.List ds)

abbrev entry_text : Entry Doc → List ℕ
entry_text e = quoted e.key ++ 58 ∷ printed e.value

texts_map : (es : List (Entry Doc)) → map member_text (map (λ (e : Entry Doc). let r : Entry (List ℕ) = record { key = e.key; value = printed e.value } in r) es) ≡ map entry_text es
texts_map [] = refl
texts_map (e ∷ es) = ap (λ ts. entry_text e ∷ ts) (texts_map es)

printed_table : (es : List (Entry Doc)) → printed (doc.Table es) ≡ 123 ∷ (join_with_byte 44 (map entry_text es) ++ 125 ∷ [])
printed_table es = ap printed (sym (rolls-Table es)) ∙ fold-roll-Doc (List ℕ) printed_step (Doc-F.Table es) ∙ ap (λ ts. 123 ∷ (join_with_byte 44 ts ++ 125 ∷ [])) (texts_map es)

entry_lengths : (es : List (Entry Doc)) → sum_by (λ e. length (entry_text e) + 1) es ≡ sum_by (λ e. length (quoted e.key) + length (printed e.value) + 2) es
entry_lengths [] = refl
entry_lengths (e ∷ es) = omega (
  arith,
  length-append (quoted e.key) (58 ∷ printed e.value),
  entry_lengths es,
  sum_by-cons (λ x. length (entry_text x) + 1) e es,
  sum_by-cons (λ x. length (quoted x.key) + length (printed x.value) + 2) e es,
)

pub list_done : (ds xs : List Doc) (i : ℕ) → xs ≡ ds → length xs ≤ i → max (1 + sum_by (λ d. length (printed d) + 1) (take i xs)) 2 ≡ length (printed (doc.List ds))
list_done ds xs i same over = ap (λ ys. max (1 + sum_by (λ d. length (printed d) + 1) ys) 2) (take_all i xs over ∙ same) ∙ sym (length-bracketed printed 91 93 ds) ∙ ap length (sym (printed_list ds))

pub table_done : (es xs : List (Entry Doc)) (i : ℕ) → xs ≡ es → length xs ≤ i
    → max (1 + sum_by (λ e. length (quoted e.key) + length (printed e.value) + 2) (take i xs)) 2 ≡ length (printed (doc.Table es))
table_done es xs i same over = ap (λ ys. max (1 + sum_by (λ e. length (quoted e.key) + length (printed e.value) + 2) ys) 2) (take_all i xs over ∙ same)
    ∙ ap (λ n. max (1 + n) 2) (sym (entry_lengths es)) ∙ sym (length-bracketed entry_text 123 125 es) ∙ ap length (sym (printed_table es))
