-- What documents become, and how long and deep that is.
use Rattle.std.proofs.Common.{◌≡◌, ◌∙◌, ap, sym, subst, refl, ℕ, zero, suc, ◌+◌, ◌<◌, ◌≤◌, max, List, [], ◌∷◌, ◌++◌, length, get_or, map, take, Bool, ℤ, Option, Some, None, ◌⊎◌, inl, inr, append_assoc, length-append, arith}
use Rattle.std.specs.List.{sum_by}
use Rattle.std.specs.Option.{IfNone}
use Rattle.std.proofs.lemmas.Grind.{flat_map-append}
use Rattle.std.proofs.lemmas.List.{map-append, take_all, take_more}
use Rattle.std.proofs.lemmas.List.Sums.{sum_by-cons, sum_by_more, sum_by_more_le}
use Rattle.std.specs.Ordering.{nat_cmp}
use Rattle.std.specs.Cmp.Lexicographic.{slice_cmp}
use Rattle.std.specs.List.Sorted.{IsStrictlySortedBy}
use Rattle.json.specs.Print.{escape, escape_byte, quoted}
use Rattle.wf_doc.specs.declared.fields.Entry.{Entry}
use Rattle.wf_doc.specs.declared.doc.Doc.{Doc}
use Rattle.wf_doc.specs.declared.doc.Doc as doc
use Rattle.wf_doc.specs.declared.doc.Doc.TheOpen.{Doc-F}
use Rattle.wf_doc.specs.declared.doc.Doc.TheVariants.{rolls-Null, rolls-Bool, rolls-Int, rolls-List, rolls-Table, rolls-Text}
use Rattle.wf_doc.specs.declared.doc.Doc.TheFolds.{fold-roll-Doc}
use Rattle.wf_doc.specs.Doc.{depth, depth_step, largest}
use Rattle.wf_doc.specs.Fields.{keys, IsOrdered}
use Rattle.wf_doc.specs.Json.{printed, printed_step}
use Rattle.wf_doc.proofs.DocLemmas.{depth_list, depth_table}
use Rattle.wf_doc.proofs.FieldLemmas.{ordered_take}
use Rattle.wf_doc.proofs.SizeLemmas.{list_done, table_done}
use Rattle.wf_expr.specs.Filling.{Names, Fits, filled, filled_entry, filled_step, filled_text, joined, named, part_text, text_of_any}
use Rattle.wf_expr.specs.Parts.{byte, expression, parts}

-- ---- part by part

pub filled_list : (names : Names) (ds : List Doc) → filled names (doc.List ds) ≡ doc.List (map (filled names) ds)
filled_list names ds = ap (filled names) (sym (rolls-List ds)) ∙ fold-roll-Doc Doc (filled_step names) (Doc-F.List ds)

pub filled_table : (names : Names) (es : List (Entry Doc)) → filled names (doc.Table es) ≡ doc.Table (map (filled_entry names) es)
filled_table names es = ap (filled names) (sym (rolls-Table es)) ∙ fold-roll-Doc Doc (filled_step names) (Doc-F.Table es)

pub filled_of_text : (names : Names) (t : List ℕ) → filled names (doc.Text t) ≡ filled_text names t
filled_of_text names t = ap (filled names) (sym (rolls-Text t)) ∙ fold-roll-Doc Doc (filled_step names) (Doc-F.Text t)

pub filled_null : (names : Names) → filled names doc.Null ≡ doc.Null
filled_null names = ap (filled names) (sym rolls-Null) ∙ fold-roll-Doc Doc (filled_step names) Doc-F.Null

pub filled_bool : (names : Names) (b : Bool) → filled names (doc.Bool b) ≡ doc.Bool b
filled_bool names b = ap (filled names) (sym (rolls-Bool b)) ∙ fold-roll-Doc Doc (filled_step names) (Doc-F.Bool b)

pub filled_int : (names : Names) (z : ℤ) → filled names (doc.Int z) ≡ doc.Int z
filled_int names z = ap (filled names) (sym (rolls-Int z)) ∙ fold-roll-Doc Doc (filled_step names) (Doc-F.Int z)

-- ---- texts

-- what is put in keeps its place in the escaped text
pub quoted_length : (t : List ℕ) → length (quoted t) ≡ length (escape t) + 2
quoted_length t = omega (arith, length-append (escape t) (34 ∷ []))

pub escaped_more : (a b : List ℕ) → length (escape (a ++ b)) ≡ length (escape a) + length (escape b)
escaped_more a b = ap length (flat_map-append escape_byte a b) ∙ length-append (escape a) (escape b)

joined_bytes : (names : Names) (text : List ℕ) → joined names (map byte text) ≡ text
joined_bytes names [] = refl
joined_bytes names (b ∷ bs) = ap (λ t. b ∷ t) (joined_bytes names bs)

-- the text without an expression
pub joined_plain : (names : Names) (text : List ℕ) → parts text ≡ map byte text → joined names (parts text) ≡ text
joined_plain names text is = ap (joined names) is ∙ joined_bytes names text

pub when_none : {X : Type 0} (found : Option X) (P : Type 0) → ((x : X) → found ≡ Some x → ⊥) → IfNone found P → P
when_none None P never is = is
when_none (Some x) P never is = absurd (never x refl)

-- the text around its first expression
pub joined_around : (names : Names) (text before e after : List ℕ) → parts text ≡ map byte before ++ expression e ∷ parts after
    → joined names (parts text) ≡ before ++ (text_of_any (named names e) ++ joined names (parts after))
joined_around names text before e after is =
    ap (joined names) is ∙ flat_map-append (part_text names) (map byte before) (expression e ∷ parts after) ∙ ap (λ t. t ++ (text_of_any (named names e) ++ joined names (parts after))) (joined_bytes names before)

-- what was made so far, with two pieces put at its end
pub two_more : (made a b tail first second : List ℕ) → first ≡ made ++ a → second ≡ first ++ b → made ++ (a ++ (b ++ tail)) ≡ second ++ tail
two_more made a b tail first second one two =
    sym (append_assoc made a (b ++ tail)) ∙ ap (λ t. t ++ (b ++ tail)) (sym one) ∙ sym (append_assoc first b tail) ∙ ap (λ t. t ++ tail) (sym two)

pub one_more : (made a first : List ℕ) → first ≡ made ++ a → length (escape first) ≡ length (escape made) + length (escape a)
one_more made a first one = ap (λ t. length (escape t)) one ∙ escaped_more made a

-- three pieces in a row
pub escaped_pieces : (all made a b c : List ℕ) → all ≡ made ++ (a ++ (b ++ c)) → length (escape all) ≡ length (escape made) + (length (escape a) + (length (escape b) + length (escape c)))
escaped_pieces all made a b c is = ap (λ t. length (escape t)) is ∙ omega (arith, escaped_more made (a ++ (b ++ c)), escaped_more a (b ++ c), escaped_more b c)

pub text_length : (t : List ℕ) → length (printed (doc.Text t)) ≡ length (quoted t)
text_length t = ap length (ap printed (sym (rolls-Text t)) ∙ fold-roll-Doc (List ℕ) printed_step (Doc-F.Text t))

pub text_depth : (t : List ℕ) → depth (doc.Text t) ≡ 0
text_depth t = ap depth (sym (rolls-Text t)) ∙ fold-roll-Doc ℕ depth_step (Doc-F.Text t)

-- ---- lists

ones : {A : Type 0} (f : A → ℕ) (xs : List A) → sum_by (λ x. f x + 1) xs ≡ sum_by f xs + length xs
ones f [] = refl
ones f (x ∷ xs) = omega (arith, sum_by-cons f x xs, sum_by-cons (λ y. f y + 1) x xs, ones f xs)

twos : {A : Type 0} (f g : A → ℕ) (xs : List A) → sum_by (λ x. f x + g x + 2) xs ≡ sum_by (λ x. (f x + 1) + g x) xs + length xs
twos f g [] = refl
twos f g (x ∷ xs) = omega (arith, sum_by-cons (λ y. f y + g y + 2) x xs, sum_by-cons (λ y. (f y + 1) + g y) x xs, twos f g xs)

sum_over : {A B : Type 0} (h : A → B) (f : B → ℕ) (xs : List A) → sum_by f (map h xs) ≡ sum_by (λ x. f (h x)) xs
sum_over h f [] = refl
sum_over h f (x ∷ xs) = omega (arith, sum_by-cons f (h x) (map h xs), sum_by-cons (λ y. f (h y)) x xs, sum_over h f xs)

map_over : {A B : Type 0} (h : A → B) (f : B → ℕ) (xs : List A) → map f (map h xs) ≡ map (λ x. f (h x)) xs
map_over h f [] = refl
map_over h f (x ∷ xs) = ap (λ ns. f (h x) ∷ ns) (map_over h f xs)

map_length : {A B : Type 0} (h : A → B) (xs : List A) → length (map h xs) ≡ length xs
map_length h [] = refl
map_length h (x ∷ xs) = ap suc (map_length h xs)

-- the brackets, and the commas between so many parts
abbrev pub frame : ℕ → ℕ
frame count = max count 1 + 1

framed : {A : Type 0} (f g : A → ℕ) (xs : List A) → sum_by f xs ≡ sum_by g xs + length xs → max (1 + sum_by f xs) 2 ≡ sum_by g xs + frame (length xs)
framed f g [] e = refl
framed f g (x ∷ xs) e = omega (arith, e)

length_list : (ds : List Doc) → length (printed (doc.List ds)) ≡ sum_by (λ d. length (printed d)) ds + frame (length ds)
length_list ds =
    sym (ap (λ xs. max (1 + sum_by (λ d. length (printed d) + 1) xs) 2) (sym (take_all (length ds) ds (omega arith))) ∙ list_done ds ds (length ds) refl (omega arith))
    ∙ framed (λ d. length (printed d) + 1) (λ d. length (printed d)) ds (ones (λ d. length (printed d)) ds)

abbrev pub item_length : Names → Doc → ℕ
item_length names d = length (printed (filled names d))

abbrev pub item_depth : Names → Doc → ℕ
item_depth names d = depth (filled names d)

pub list_length : (names : Names) (ds : List Doc) → length (printed (doc.List (map (filled names) ds))) ≡ sum_by (item_length names) ds + frame (length ds)
list_length names ds = length_list (map (filled names) ds) ∙ (λ i. sum_over (filled names) (λ d. length (printed d)) ds i + frame (map_length (filled names) ds i))

pub list_depth : (names : Names) (ds : List Doc) → depth (doc.List (map (filled names) ds)) ≡ suc (largest (map (item_depth names) ds))
list_depth names ds = depth_list (map (filled names) ds) ∙ ap (λ ns. suc (largest ns)) (map_over (filled names) depth ds)

-- ---- tables

length_table : (es : List (Entry Doc)) → length (printed (doc.Table es)) ≡ sum_by (λ e. (length (quoted e.key) + 1) + length (printed e.value)) es + frame (length es)
length_table es =
    sym (ap (λ xs. max (1 + sum_by (λ (e : Entry Doc). length (quoted e.key) + length (printed e.value) + 2) xs) 2) (sym (take_all (length es) es (omega arith))) ∙ table_done es es (length es) refl (omega arith))
    ∙ framed (λ (e : Entry Doc). length (quoted e.key) + length (printed e.value) + 2) (λ (e : Entry Doc). (length (quoted e.key) + 1) + length (printed e.value)) es
    (twos (λ (e : Entry Doc). length (quoted e.key)) (λ (e : Entry Doc). length (printed e.value)) es)

abbrev pub entry_length : Names → Entry Doc → ℕ
entry_length names e = (length (quoted e.key) + 1) + length (printed (filled names e.value))

abbrev pub entry_depth : Names → Entry Doc → ℕ
entry_depth names e = depth (filled names e.value)

pub table_length : (names : Names) (es : List (Entry Doc)) → length (printed (doc.Table (map (filled_entry names) es))) ≡ sum_by (entry_length names) es + frame (length es)
table_length names es =
    length_table (map (filled_entry names) es) ∙ (λ i. sum_over (filled_entry names) (λ e. (length (quoted e.key) + 1) + length (printed e.value)) es i + frame (map_length (filled_entry names) es i))

pub table_depth : (names : Names) (es : List (Entry Doc)) → depth (doc.Table (map (filled_entry names) es)) ≡ suc (largest (map (entry_depth names) es))
table_depth names es = depth_table (map (filled_entry names) es) ∙ ap (λ ns. suc (largest ns)) (map_over (filled_entry names) (λ e. depth e.value) es)

-- ---- one part more

pub among_largest : {A : Type 0} (g : A → ℕ) (xs : List A) (i : ℕ) (x : A) → i < length xs → x ≡ get_or xs i x → g x ≤ largest (map g xs)
among_largest g [] i x within is = absurd (omega arith)
among_largest g (y ∷ ys) zero x within is = let same : g x ≡ g y = ap g is in omega (arith, same)
among_largest g (y ∷ ys) (suc i) x within is = omega (arith, among_largest g ys i x (omega arith) is)

pub sum_within : {A : Type 0} (f : A → ℕ) (xs : List A) (i : ℕ) (x : A) → i < length xs → x ≡ get_or xs i x → sum_by f (take i xs) + f x ≤ sum_by f xs
sum_within f xs i x within is = let same : f x ≡ f (get_or xs i x) = ap f is in omega (arith, same, sum_by_more_le f xs i x within)

pub sum_more : {A : Type 0} (f : A → ℕ) (xs : List A) (i : ℕ) (x : A) → i < length xs → x ≡ get_or xs i x → sum_by f (take (i + 1) xs) ≡ sum_by f (take i xs) + f x
sum_more f xs i x within is = sum_by_more f xs i x within ∙ ap (λ y. sum_by f (take i xs) + f y) (sym is)

pub made_more : {A B : Type 0} (h : A → B) (xs : List A) (i : ℕ) (x : A) (made new : List B) (y : B) → i < length xs → x ≡ get_or xs i x → made ≡ map h (take i xs) → y ≡ h x → new ≡ made ++ y ∷ []
    → new ≡ map h (take (i + 1) xs)
made_more h xs i x made new y within is so_far filled_in pushed =
    pushed ∙ (λ j. so_far j ++ filled_in j ∷ []) ∙ ap (λ z. map h (take i xs) ++ h z ∷ []) is ∙ sym (map-append h (take i xs) (get_or xs i x ∷ [])) ∙ ap (map h) (sym (take_more xs i x within))

-- no level or no room is left for the brackets and commas
pub frame_too_large : {A : Type 0} (f g : A → ℕ) (xs : List A) (whole : Doc) (count size levels : ℕ)
    → length (printed whole) ≡ sum_by f xs + frame (length xs) → depth whole ≡ suc (largest (map g xs)) → count ≡ length xs → (levels ≡ 0) ⊎ (size < frame count) → ¬ (Fits size levels whole)
frame_too_large f g xs whole count size levels long deep is (inl none) fits = absurd (omega (arith, deep, none, fits.1))
frame_too_large f g xs whole count size levels long deep is (inr short) fits = let same : frame count ≡ frame (length xs) = ap frame is in absurd (omega (arith, long, same, fits.0, short))

-- a part that doesn't fit in what is left makes the whole not fit
pub part_too_large : {A : Type 0} (f g : A → ℕ) (xs : List A) (i : ℕ) (x : A) (part whole : Doc) (left size inner levels : ℕ)
    → i < length xs → x ≡ get_or xs i x
    → length (printed whole) ≡ sum_by f xs + frame (length xs) → depth whole ≡ suc (largest (map g xs))
    → length (printed part) ≤ f x → depth part ≡ g x
    → left + (sum_by f (take i xs) + (f x + frame (length xs))) ≡ size + length (printed part) → inner + 1 ≡ levels
    → ¬ (Fits left inner part) → ¬ (Fits size levels whole)
part_too_large f g xs i x part whole left size inner levels within is long deep part_long part_deep taken step large fits =
    large (omega (arith, long, taken, fits.0, sum_within f xs i x within is), omega (arith, deep, part_deep, step, fits.1, among_largest g xs i x within is))

-- and so does one whose front is longer than what is left
pub front_too_large : {A : Type 0} (f : A → ℕ) (xs : List A) (i : ℕ) (x : A) (whole : Doc) (front left size levels : ℕ)
    → i < length xs → x ≡ get_or xs i x → length (printed whole) ≡ sum_by f xs + frame (length xs) → front ≤ f x → left < front
    → left + (sum_by f (take i xs) + frame (length xs)) ≡ size → ¬ (Fits size levels whole)
front_too_large f xs i x whole front left size levels within is long some less taken fits = absurd (omega (arith, long, taken, fits.0, sum_within f xs i x within is))

-- ---- the order of keys

keys_filled : (names : Names) (es : List (Entry Doc)) → keys (map (filled_entry names) es) ≡ keys es
keys_filled names [] = refl
keys_filled names (e ∷ es) = ap (λ ks. e.key ∷ ks) (keys_filled names es)

pub ordered_filled : (names : Names) (es items made : List (Entry Doc)) (i : ℕ) (e new : Entry Doc)
    → IsOrdered es → items ≡ es → made ≡ map (filled_entry names) (take i items) → i < length items → e ≡ get_or items i e → new.key ≡ e.key → IsOrdered (made ++ new ∷ [])
ordered_filled names es items made i e new rises same so_far within is key =
    subst (IsStrictlySortedBy (slice_cmp nat_cmp))
    (ap (λ xs. keys (take (i + 1) xs)) (sym same) ∙ ap keys (take_more items i e within ∙ ap (λ x. take i items ++ x ∷ []) (sym is)) ∙ map-append (λ (x : Entry Doc). x.key) (take i items) (e ∷ [])
    ∙ (λ j. sym (ap keys so_far ∙ keys_filled names (take i items)) j ++ sym key j ∷ []) ∙ sym (map-append (λ (x : Entry Doc). x.key) made (new ∷ [])))
    (ordered_take es (i + 1) rises)
