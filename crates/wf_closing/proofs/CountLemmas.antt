-- Numbers by the texts that they are printed as.
use Rattle.std.proofs.Common.{◌≡◌, ◌∙◌, sym, ap, subst, refl, ℕ, ℤ, pos, negsuc, zero, suc, ◌<◌, ◌≤◌, ◌^◌, Bool, true, false, if◌then◌else◌, nat_lt, nat_le, List, [], ◌∷◌, drop, Result, Ok, Err, None, Some, arith}
use Rattle.std.specs.Prelude.{Option, option_and_then}
use Rattle.std.specs.Fmt.{decimal, signed_decimal}
use Rattle.std.specs.Str.Parse.{AllDigits, digits_value, ParsesSigned}
use Rattle.std.proofs.lemmas.Bool.Decides.{nat_tests}
use Rattle.std.proofs.lemmas.Fmt.{decimal_is_IsNumeral, parse-signed_decimal}
use Rattle.std.proofs.lemmas.Slice.Eq.{bytes_eq-Decides}
use Rattle.std.proofs.lemmas.Str.Parse.{digit_from_value}
use lib.Signed.{mag}
use mir.Syntax.{w64}
use Rattle.wf_machine.specs.Text.{same_text}
use Rattle.wf_rules.specs.Outputs.{has_minus, minus, number_in, number_printed, signed}

-- ---- numbers of 64 bits

abbrev Fits : Option ℤ → Type 0
Fits None = Unit {0}
Fits (Some z) = mag z < 2 ^ 63

minus_fits : (n : ℕ) → n ≤ 2 ^ 63 → mag (minus n) < 2 ^ 63
minus_fits zero within = omega arith
minus_fits (suc n) within = omega arith

if_fits : (t : Bool) (z : ℤ) → (t ≡ true → mag z < 2 ^ 63) → Fits (if t then Some z else None)
if_fits true z fits = fits refl
if_fits false z fits = tt

signed_fits : (b : Bool) (n : ℕ) → Fits (signed b n)
signed_fits true n = if_fits (nat_le n (2 ^ 63)) (minus n) (λ e. minus_fits n (grind (arith, nat_tests)))
signed_fits false n = if_fits (nat_lt n (2 ^ 63)) (pos n) (λ e. grind (arith, nat_tests))

-- ---- a text that is printed is read

printed_read : {E : Type 0} (text : List ℕ) (z : ℤ) (r : Result ℤ E) → mag z < 2 ^ 63 → same_text text (signed_decimal z) ≡ true → ParsesSigned w64 10 text r → r ≡ Ok z
printed_read text z r fits same read =
    parse-signed_decimal w64 z text r (record { sfits = fits }) fits ((bytes_eq-Decides text (signed_decimal z)).0 same) read

abbrev where_printed : List ℕ → ℤ → Option ℤ
where_printed text z = if same_text text (signed_decimal z) then Some z else None

unread : {E : Type 0} (text : List ℕ) (e : E) (z : ℤ) (t : Bool) → mag z < 2 ^ 63 → same_text text (signed_decimal z) ≡ t → ParsesSigned w64 10 text (Err e) → None ≡ (if t then Some z else None)
unread text e z true fits same read = let never : Err e ≡ Ok z = printed_read text z (Err e) fits same read in cc
unread text e z false fits same read = refl

unread_of : {E : Type 0} (text : List ℕ) (e : E) (o : Option ℤ) → Fits o → ParsesSigned w64 10 text (Err e) → None ≡ option_and_then (where_printed text) o
unread_of text e None fits read = refl
unread_of text e (Some z) fits read = unread text e z (same_text text (signed_decimal z)) fits refl read

pub not_read : {E : Type 0} (text : List ℕ) (e : E) → ParsesSigned w64 10 text (Err e) → None ≡ number_printed text
not_read text e read = unread_of text e (number_in text) (signed_fits (has_minus text) _) read

other_read : (E : Type 0) (text : List ℕ) (y z : ℤ) (t : Bool) → mag z < 2 ^ 63 → same_text text (signed_decimal z) ≡ t → same_text text (signed_decimal y) ≡ false → ParsesSigned {E = E} w64 10 text (Ok y)
    → None ≡ (if t then Some z else None)
other_read E text y z true fits same other read =
    let found = printed_read {E = E} text z (Ok y) fits same read in
    let equal : y ≡ z = cc in
    let both : false ≡ true = sym other ∙ ap (λ x. same_text text (signed_decimal x)) equal ∙ same in
    cc
other_read E text y z false fits same other read = refl

other_of : (E : Type 0) (text : List ℕ) (y : ℤ) (o : Option ℤ) → Fits o → same_text text (signed_decimal y) ≡ false → ParsesSigned {E = E} w64 10 text (Ok y) → None ≡ option_and_then (where_printed text) o
other_of E text y None fits other read = refl
other_of E text y (Some z) fits other read = other_read E text y z (same_text text (signed_decimal z)) fits refl other read

pub read_not_printed : {E : Type 0} (text : List ℕ) (y : ℤ) (r : Result ℤ E) → r ≡ Ok y → same_text text (signed_decimal y) ≡ false → ParsesSigned w64 10 text r → None ≡ number_printed text
read_not_printed {E} text y r is other read =
    other_of E text y (number_in text) (signed_fits (has_minus text) _) other (subst (λ x. ParsesSigned w64 10 text x) is read)

-- ---- the number in a text that is printed

not_minus : (ds : List ℕ) → AllDigits 10 ds → has_minus ds ≡ false
not_minus [] digits = refl
not_minus (c ∷ cs) digits = let digit = digit_from_value c digits.0 in grind (arith, nat_tests)

in_positive : (n : ℕ) → n < 2 ^ 63 → number_in (decimal n) ≡ Some (pos n)
in_positive n fits =
    let numeral = decimal_is_IsNumeral n (omega arith) in
    let small : nat_lt n (2 ^ 63) ≡ true = grind (arith, nat_tests) in
    ap (λ b. signed b (digits_value 10 (if b then drop 1 (decimal n) else decimal n))) (not_minus (decimal n) numeral.0.1)
    ∙ ap (signed false) numeral.1
    ∙ ap (λ (b : Bool). if b then Some (pos n) else None) small

in_negative : (n : ℕ) → n < 2 ^ 63 → number_in (45 ∷ decimal (suc n)) ≡ Some (negsuc n)
in_negative n fits =
    let numeral = decimal_is_IsNumeral (suc n) (omega arith) in
    let small : nat_le (suc n) (2 ^ 63) ≡ true = grind (arith, nat_tests) in
    ap (signed true) numeral.1 ∙ ap (λ (b : Bool). if b then Some (negsuc n) else None) small

in_printed : (z : ℤ) → mag z < 2 ^ 63 → number_in (signed_decimal z) ≡ Some z
in_printed (pos n) fits = in_positive n (omega (arith, fits))
in_printed (negsuc n) fits = in_negative n (omega (arith, fits))

pub read_and_printed : (text : List ℕ) (y : ℤ) → mag y < 2 ^ 63 → same_text text (signed_decimal y) ≡ true → Some y ≡ number_printed text
read_and_printed text y fits same =
    let is : text ≡ signed_decimal y = (bytes_eq-Decides text (signed_decimal y)).0 same in
    let found : number_in text ≡ Some y = ap number_in is ∙ in_printed y fits in
    sym (ap (option_and_then (where_printed text)) found ∙ ap (λ (b : Bool). if b then Some y else None) same)
