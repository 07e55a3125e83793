-- A number of JSON with no bad sign in it, and in range, is a whole number of 64 signed bits.
use Rattle.std.proofs.Common.{◌≡◌, ◌≢◌, ◌∙◌, ap, sym, subst, refl, ℕ, zero, suc, ◌+◌, ◌*◌, ◌^◌, ◌<◌, ◌≤◌, ℤ, pos, Bool, true, false, cond, not, ◌&&◌, ◌||◌, ◌==◌, nat_lt, nat_le, List, [], ◌∷◌, ◌++◌, length, drop, get_or, Option, Some, None, option_and_then, ◌⊎◌, inl, inr, append-nil, lt-ltb, le-leb, ne_eqb, arith}
use Rattle.std.specs.Prelude.{if◌then◌else◌}
use Rattle.std.proofs.lemmas.Bool.{eqb-true, and_parts}
use Rattle.std.proofs.lemmas.Bool.Decides.{nat_tests}
use Rattle.std.proofs.lemmas.List.{length-drop}
use Rattle.std.proofs.lemmas.List.Sums.{prefix_len-le-length}
use Rattle.std.proofs.lemmas.Str.{digit_value_digit}
use Rattle.std.specs.List.{prefix_len, list_all, list_any}
use Rattle.std.specs.Char.{is_ascii_digit, digit_value}
use Rattle.std.specs.Fmt.{sign_text}
use Rattle.std.specs.Str.Parse.{AllDigits, digits_value, digits_value_after}
use Rattle.json.specs.Word.{head, after_digits, after_sign, after_whole, after_fraction, after_exponent, after_number}
use Rattle.fast_float.specs.Text.{Parts, scan, digits_of as value_of, with_sign, IsWellFormed}
use Rattle.fast_float.proofs.Writing.{scan-text_of}
use Rattle.serde_json.specs.Data.{unsigned, negative}
use Rattle.serde_json.specs.Find.{as_i64}
use Rattle.serde_json.specs.Read.{number_of, number_from, is_integer}
use Rattle.wf_doc.specs.declared.scan.DocFault.TheVariants.{Fraction, Range}
use Rattle.wf_doc.specs.Scan.{is_fraction_sign, is_negative, digits_of, is_whole, is_out_of_range, token_fault}

-- ---- tests

or_left : (a b : Bool) → (a || b) ≡ false → a ≡ false
or_left true b h = h
or_left false b h = refl

or_right : (a b : Bool) → (a || b) ≡ false → b ≡ false
or_right true b h = absurd (cc)
or_right false b h = h

abbrev HasNoSign : List ℕ → Type 0
HasNoSign t = list_any is_fraction_sign t ≡ false

drop_sign : (k : ℕ) (t : List ℕ) → HasNoSign t → HasNoSign (drop k t)
drop_sign zero t h = h
drop_sign (suc k) [] h = refl
drop_sign (suc k) (x ∷ xs) h = drop_sign k xs (or_right (is_fraction_sign x) _ h)

no_dot : (x : ℕ) → is_fraction_sign x ≡ false → (x == 46) ≡ false
no_dot x h = or_left (x == 46) (x == 101) (or_left ((x == 46) || (x == 101)) (x == 69) h)

no_letter : (x : ℕ) → is_fraction_sign x ≡ false → ((x == 101) || (x == 69)) ≡ false
no_letter x h = neither (x == 101) (x == 69) (or_right (x == 46) (x == 101) (or_left ((x == 46) || (x == 101)) (x == 69) h)) (or_right ((x == 46) || (x == 101)) (x == 69) h)
  where
    neither : (a b : Bool) → a ≡ false → b ≡ false → (a || b) ≡ false
    neither true b p q = p
    neither false b p q = q

-- ---- the text of a number with no sign of a fraction or an exponent

plain_fraction : (v : List ℕ) → HasNoSign v → after_fraction v ≡ Some v
plain_fraction [] h = refl
plain_fraction (x ∷ xs) h = ap (λ b. cond b (after_digits xs) (Some (x ∷ xs))) (no_dot x (or_left (is_fraction_sign x) _ h))

plain_exponent : (v : List ℕ) → HasNoSign v → after_exponent v ≡ Some v
plain_exponent [] h = refl
plain_exponent (x ∷ xs) h = ap (λ b. cond b (after_digits (after_sign xs)) (Some (x ∷ xs))) (no_letter x (or_left (is_fraction_sign x) _ h))

-- `0`, or digits that don't begin with one
abbrev IsNatural : List ℕ → Type 0
IsNatural ds = (ds ≡ 48 ∷ []) ⊎ ((list_all is_ascii_digit ds ≡ true) × (0 < length ds) × (get_or ds 0 0 ≢ 48))

leaves_digits : (u v : List ℕ) (b : Bool) → cond b None (Some (drop (prefix_len is_ascii_digit u) u)) ≡ Some v → HasNoSign u → HasNoSign v
leaves_digits u v true e h = absurd (cc)
leaves_digits u v false e h = let same : drop (prefix_len is_ascii_digit u) u ≡ v = cc in subst HasNoSign same (drop_sign (prefix_len is_ascii_digit u) u h)

leaves_whole : (u v : List ℕ) (b : Bool) → cond b (Some (drop 1 u)) (after_digits u) ≡ Some v → HasNoSign u → HasNoSign v
leaves_whole u v true e h = let same : drop 1 u ≡ v = cc in subst HasNoSign same (drop_sign 1 u h)
leaves_whole u v false e h = leaves_digits u v (prefix_len is_ascii_digit u == 0) e h

whole_alone : (u : List ℕ) (o : Option (List ℕ)) → after_whole u ≡ o → HasNoSign u → option_and_then after_exponent (option_and_then after_fraction o) ≡ Some [] → after_whole u ≡ Some []
whole_alone u None e h n = absurd (cc)
whole_alone u (Some v) e h n =
    let plain : HasNoSign v = leaves_whole u v (head u == 48) e h in
    e ∙ sym (plain_exponent v plain) ∙ sym (ap (option_and_then after_exponent) (plain_fraction v plain)) ∙ n

all_from_prefix : (xs : List ℕ) → prefix_len is_ascii_digit xs ≡ length xs → list_all is_ascii_digit xs ≡ true
all_from_prefix [] e = refl
all_from_prefix (x ∷ xs) e = all_at (is_ascii_digit x) (all_from_prefix xs) e
  where
    all_at : (b : Bool) → (prefix_len is_ascii_digit xs ≡ length xs → list_all is_ascii_digit xs ≡ true) → cond b (1 + prefix_len is_ascii_digit xs) 0 ≡ suc (length xs) → (b && list_all is_ascii_digit xs) ≡ true
    all_at true more e = more (omega arith)
    all_at false more e = absurd (omega arith)

natural_digits : (u : List ℕ) (b : Bool) → (prefix_len is_ascii_digit u == 0) ≡ b → (head u == 48) ≡ false → cond b None (Some (drop (prefix_len is_ascii_digit u) u)) ≡ Some [] → IsNatural u
natural_digits u true none first e = absurd (cc)
natural_digits [] false none first e = absurd (cc)
natural_digits (x ∷ xs) false none first e =
    let rest : drop (prefix_len is_ascii_digit (x ∷ xs)) (x ∷ xs) ≡ [] = cc in
    let within = prefix_len-le-length is_ascii_digit (x ∷ xs) in
    let all : prefix_len is_ascii_digit (x ∷ xs) ≡ length (x ∷ xs) = omega (arith, length-drop (prefix_len is_ascii_digit (x ∷ xs)) (x ∷ xs), ap length rest, within) in
    inr (all_from_prefix (x ∷ xs) all, omega arith, λ is. let same : (x == 48) ≡ true = ap (λ y. y == 48) is in absurd (cc))

natural_at : (u : List ℕ) (b : Bool) → (head u == 48) ≡ b → cond b (Some (drop 1 u)) (after_digits u) ≡ Some [] → IsNatural u
natural_at [] true is e = absurd (cc)
natural_at (x ∷ xs) true is e = let rest : xs ≡ [] = cc in inl (λ i. eqb-true x 48 is i ∷ rest i)
natural_at u false is e = natural_digits u (prefix_len is_ascii_digit u == 0) refl is e

natural : (u : List ℕ) → HasNoSign u → option_and_then after_exponent (option_and_then after_fraction (after_whole u)) ≡ Some [] → IsNatural u
natural u h e = natural_at u (head u == 48) refl (whole_alone u (after_whole u) refl h e)

-- a minus or none, and a natural number
abbrev IsWholeText : List ℕ → Type 0
IsWholeText s = (minus : Bool) × (ds : List ℕ) × (s ≡ sign_text minus ++ ds) × IsNatural ds

whole_at : (s : List ℕ) (b : Bool) → (head s == 45) ≡ b → HasNoSign s → option_and_then after_exponent (option_and_then after_fraction (after_whole (cond b (drop 1 s) s))) ≡ Some [] → IsWholeText s
whole_at [] true is h e = absurd (cc)
whole_at (x ∷ xs) true is h e = (true, xs, ap (λ y. y ∷ xs) (eqb-true x 45 is), natural xs (or_right (is_fraction_sign x) _ h) e)
whole_at s false is h e = (false, s, refl, natural s h e)

whole_text : (s : List ℕ) → HasNoSign s → after_number s ≡ Some [] → IsWholeText s
unfolding after_number
whole_text s h e = whole_at s (head s == 45) refl h e

-- ---- its value

abbrev pub HasWhole : List ℕ → Type 0
HasWhole s = (z : ℤ) × (option_and_then as_i64 (number_of s) ≡ Some z)

digit_is_small : (x : ℕ) → is_ascii_digit x ≡ true → digit_value x < 10
digit_is_small x h = let same = digit_value_digit x (grind (arith, nat_tests)) in grind (arith, nat_tests)

all_digits : (ds : List ℕ) → list_all is_ascii_digit ds ≡ true → AllDigits 10 ds
all_digits [] h = tt
all_digits (d ∷ ds) h = let parts = and_parts (is_ascii_digit d) (list_all is_ascii_digit ds) h in (digit_is_small d parts.0, all_digits ds parts.1)

digit_is_no_minus : (b : Bool) (x : ℕ) → (x == 45) ≡ b → is_ascii_digit x ≡ true → b ≡ false
digit_is_no_minus true x is h = let same : 45 ≡ x = sym (eqb-true x 45 is) in let none : false ≡ true = subst (λ y. is_ascii_digit y ≡ true) (sym same) h in cc
digit_is_no_minus false x is h = refl

no_minus : (ds : List ℕ) → list_all is_ascii_digit ds ≡ true → (get_or ds 0 0 == 45) ≡ false
no_minus [] h = refl
no_minus (d ∷ ds) h = digit_is_no_minus (d == 45) d refl (and_parts (is_ascii_digit d) (list_all is_ascii_digit ds) h).0

abbrev parts_of : List ℕ → Parts
parts_of ds = record { whole = ds; point = false; fraction = []; exponent_negative = false; exponent = []; len = length (ds ++ []) }

formed : (ds : List ℕ) → AllDigits 10 ds → IsWellFormed (parts_of ds)
formed ds h = record { whole_digits = h; fraction_digits = tt; exponent_digits = tt; no_point = λ _. refl; no_exponent = λ _. refl; len_is = refl }

number_at : (minus : Bool) (ds : List ℕ) → list_all is_ascii_digit ds ≡ true → number_of (sign_text minus ++ ds) ≡ number_from minus (parts_of ds)
unfolding number_of
number_at true ds h = ap (λ s. number_from true (scan s)) (sym (append-nil ds)) ∙ ap (number_from true) (scan-text_of (parts_of ds) (formed ds (all_digits ds h)))
number_at false ds h = rw (no_minus ds h) (ap (λ s. number_from false (scan s)) (sym (append-nil ds)) ∙ ap (number_from false) (scan-text_of (parts_of ds) (formed ds (all_digits ds h))))

least_value : (n : ℕ) (ds : List ℕ) → n ≤ digits_value_after 10 n ds
least_value n [] = omega arith
least_value n (d ∷ ds) = omega (arith, least_value (n * 10 + digit_value d) ds)

some_value : (ds : List ℕ) → list_all is_ascii_digit ds ≡ true → 0 < length ds → get_or ds 0 0 ≢ 48 → 0 < digits_value 10 ds
some_value [] h some first = absurd (omega arith)
some_value (d ∷ ds) h some first =
    let is : is_ascii_digit d ≡ true = (and_parts (is_ascii_digit d) (list_all is_ascii_digit ds) h).0 in
    let same : digit_value d + 48 ≡ d = digit_value_digit d (grind (arith, nat_tests)) in
    omega (arith, same, first, least_value (0 * 10 + digit_value d) ds)

-- what a token with no fault is not
unfaulted : (sign whole out : Bool) → (if sign then Some Fraction else (if whole && out then Some Range else None)) ≡ None → (sign ≡ false) × (whole ≡ true → out ≡ false)
unfaulted true whole out h = absurd (cc)
unfaulted false true true h = absurd (cc)
unfaulted false true false h = (refl, λ _. refl)
unfaulted false false out h = (refl, λ none. absurd (cc))

natural_all : (ds : List ℕ) → IsNatural ds → (list_all is_ascii_digit ds ≡ true) × (0 < length ds)
natural_all ds (inl zero_is) = subst (λ xs. (list_all is_ascii_digit xs ≡ true) × (0 < length xs)) (sym zero_is) (refl, omega arith)
natural_all ds (inr some) = (some.0, some.1)

is_whole_at : (ds : List ℕ) → list_all is_ascii_digit ds ≡ true → 0 < length ds → (not (length ds == 0) && list_all is_ascii_digit ds) ≡ true
is_whole_at ds all some = rw (ne_eqb (length ds) 0 (λ z. omega arith)) all

integer_at : (ds : List ℕ) → 0 < length ds → is_integer (parts_of ds) ≡ true
integer_at ds some = rw (lt-ltb 0 (length ds) some)

value_at : (ds : List ℕ) → value_of (parts_of ds) ≡ digits_value 10 ds
value_at ds = ap (digits_value 10) (append-nil ds)

small_value : (v : ℕ) → nat_le (2 ^ 63) v ≡ false → v < 2 ^ 63
small_value v h = grind (arith, nat_tests)

plain_fits : (ds : List ℕ) → list_all is_ascii_digit ds ≡ true → 0 < length ds → token_fault ds ≡ None → HasWhole ds
plain_fits ds all some h =
    let r : is_whole ds ≡ true → is_out_of_range (is_negative ds) (length (digits_of ds)) (digits_value 10 (digits_of ds)) ≡ false = (unfaulted (list_any is_fraction_sign ds) (is_whole ds) _ h).1 in
    let plain : (not (length ds == 0) && list_all is_ascii_digit ds) ≡ true → nat_le (2 ^ 63) (digits_value 10 ds) ≡ false =
    subst (λ n. (not (length (if n then drop 1 ds else ds) == 0) && list_all is_ascii_digit (if n then drop 1 ds else ds)) ≡ true
    → is_out_of_range n (length (if n then drop 1 ds else ds)) (digits_value 10 (if n then drop 1 ds else ds)) ≡ false) (no_minus ds all) r in
    let small : digits_value 10 ds < 2 ^ 63 = small_value (digits_value 10 ds) (plain (is_whole_at ds all some)) in
    let fits : digits_value 10 ds < 2 ^ 64 = omega arith in
    let from : number_from false (parts_of ds) ≡ Some (unsigned (digits_value 10 ds)) = rw (integer_at ds some, value_at ds) (rw (lt-ltb (digits_value 10 ds) (2 ^ 64) fits)) in
    let signed : as_i64 (unsigned (digits_value 10 ds)) ≡ Some (pos (digits_value 10 ds)) = rw (lt-ltb (digits_value 10 ds) (2 ^ 63) small) in
    (pos (digits_value 10 ds), ap (option_and_then as_i64) (number_at false ds all ∙ from) ∙ signed)

small_negative : (v : ℕ) → nat_lt (2 ^ 63) v ≡ false → v ≤ 2 ^ 63
small_negative v h = grind (arith, nat_tests)

negative_fits : (ds : List ℕ) → list_all is_ascii_digit ds ≡ true → 0 < length ds → 0 < digits_value 10 ds → token_fault (45 ∷ ds) ≡ None → HasWhole (45 ∷ ds)
negative_fits ds all some above h =
    let r : is_whole (45 ∷ ds) ≡ true → (nat_lt (2 ^ 63) (digits_value 10 ds) || ((length ds == 1) && (digits_value 10 ds == 0))) ≡ false = (unfaulted (list_any is_fraction_sign (45 ∷ ds)) (is_whole (45 ∷ ds)) _ h).1 in
    let small : digits_value 10 ds ≤ 2 ^ 63 = small_negative (digits_value 10 ds) (or_left (nat_lt (2 ^ 63) (digits_value 10 ds)) _ (r (is_whole_at ds all some))) in
    let from : number_from true (parts_of ds) ≡ Some (negative (with_sign true (digits_value 10 ds))) = rw (integer_at ds some, value_at ds) (rw (lt-ltb 0 (digits_value 10 ds) above, le-leb (digits_value 10 ds) (2 ^ 63) small)) in
    (with_sign true (digits_value 10 ds), ap (option_and_then as_i64) (number_at true ds all ∙ from))

negative_natural : (ds : List ℕ) → IsNatural ds → token_fault (45 ∷ ds) ≡ None → HasWhole (45 ∷ ds)
negative_natural ds (inl zero_is) h = let never : Some Range ≡ None = subst (λ xs. token_fault (45 ∷ xs) ≡ None) zero_is h in absurd (cc)
negative_natural ds (inr some) h = negative_fits ds some.0 some.1 (some_value ds some.0 some.1 some.2) h

fits_at : (minus : Bool) (ds : List ℕ) → IsNatural ds → token_fault (sign_text minus ++ ds) ≡ None → HasWhole (sign_text minus ++ ds)
fits_at true ds n h = negative_natural ds n h
fits_at false ds n h = let all = natural_all ds n in plain_fits ds all.0 all.1 h

-- a number by itself, that the scan finds no fault with
pub whole_number : (s : List ℕ) → after_number s ≡ Some [] → token_fault s ≡ None → HasWhole s
whole_number s alone h =
    let w : IsWholeText s = whole_text s (unfaulted (list_any is_fraction_sign s) (is_whole s) _ h).0 alone in
    subst HasWhole (sym w.2) (fits_at w.0 w.1 w.3 (subst (λ t. token_fault t ≡ None) w.2 h))
