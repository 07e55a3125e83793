-- Fields one by one, and numbers.
use Rattle.std.proofs.Common.{◌≡◌, ◌∙◌, ℕ, ◌+◌, ◌*◌, ◌-◌, ◌<◌, ◌≤◌, IsTrue, subst, Bool, true, false, List, [], ◌∷◌, length, get_or, drop, refl, sym, ap, arith, Some, None}
use Rattle.std.specs.Prelude.{if◌then◌else◌, ◌&&◌, nat_le}
use Rattle.std.proofs.lemmas.List.{at_drop_more}
use Rattle.std.proofs.lemmas.Bool.Decides.{nat_tests}
use Rattle.std.specs.Char.{digit_value, is_ascii_digit}
use Rattle.std.specs.List.{list_all}
use Rattle.std.specs.Str.Parse.{digits_value, digits_value_after}
use Rattle.wf_wire.specs.declared.fields.Field.{Field}
use Rattle.wf_wire.specs.Fields.{same_word, values, number_within}
use Rattle.wf_wire.specs.Reading.{pairs}

step_values : (name : List ℕ) (fs : List Field) (i : ℕ) (f : Field) (v : Bool) → i < length fs → f ≡ get_or fs i f → same_word f.name.items name ≡ v
    → values name (pairs (drop i fs)) ≡ (if v then f.value.items ∷ values name (pairs (drop (i + 1) fs)) else values name (pairs (drop (i + 1) fs)))
step_values name fs i f v inside is same =
    at_drop_more (λ xs. values name (pairs xs)) fs i f inside
    ∙ ap (λ x. values name (pairs (x ∷ drop (i + 1) fs))) (sym is)
    ∙ ap (λ t. if t then f.value.items ∷ values name (pairs (drop (i + 1) fs)) else values name (pairs (drop (i + 1) fs))) same

pub first_here : (name : List ℕ) (fs : List Field) (i : ℕ) (f : Field) → values name (pairs fs) ≡ values name (pairs (drop i fs)) → i < length fs → f ≡ get_or fs i f → same_word f.name.items name ≡ true
    → values name (pairs fs) ≡ f.value.items ∷ values name (pairs (drop (i + 1) fs))
first_here name fs i f kept inside is hit = kept ∙ step_values name fs i f true inside is hit

pub first_not_here : (name : List ℕ) (fs : List Field) (i : ℕ) (f : Field) → values name (pairs fs) ≡ values name (pairs (drop i fs)) → i < length fs → f ≡ get_or fs i f → same_word f.name.items name ≡ false
    → values name (pairs fs) ≡ values name (pairs (drop (i + 1) fs))
first_not_here name fs i f kept inside is miss = kept ∙ step_values name fs i f false inside is miss

grows_after : (n : ℕ) (ds : List ℕ) → n ≤ digits_value_after 10 n ds
grows_after n [] = omega arith
grows_after n (d ∷ ds) = omega (arith, grows_after (n * 10 + digit_value d) ds)

digit_is : (b : ℕ) → is_ascii_digit b ≡ true → digit_value b ≡ b - 48
digit_is b d = grind (arith, nat_tests)

by_value : (v w : Bool) → IsTrue (v && w) → v ≡ true
by_value true w h = refl
by_value false w h = h

first_true : (b : ℕ) (bs : List ℕ) → IsTrue (list_all is_ascii_digit (b ∷ bs)) → is_ascii_digit b ≡ true
first_true b bs h = by_value (is_ascii_digit b) (list_all is_ascii_digit bs) h

large : (limit n : ℕ) → limit < n → None ≡ (if nat_le n limit then Some n else None)
large limit n over = grind (arith, nat_tests)

pub too_great : (limit total i : ℕ) (text : List ℕ) → digits_value 10 text ≡ digits_value_after 10 total (drop i text) → i < length text → IsTrue (list_all is_ascii_digit (drop i text))
    → limit < total * 10 + (get_or text i 0 - 48) → None ≡ number_within limit text
too_great limit total i text kept inside digits over =
    let b : ℕ = get_or text i 0 in
    let value : digits_value 10 text ≡ digits_value_after 10 (total * 10 + digit_value b) (drop (i + 1) text) = kept ∙ at_drop_more (digits_value_after 10 total) text i 0 inside in
    let here : is_ascii_digit b ≡ true = first_true b (drop (i + 1) text) (subst IsTrue (at_drop_more (list_all is_ascii_digit) text i 0 inside) digits) in
    let great : limit < digits_value 10 text = omega (arith, value, digit_is b here, grows_after (total * 10 + digit_value b) (drop (i + 1) text), over) in
    large limit (digits_value 10 text) great
