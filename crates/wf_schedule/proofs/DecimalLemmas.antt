-- The text of a number, and the number of a text.
use Rattle.std.proofs.Common.{◌≡◌, ◌≢◌, ◌∙◌, ap, sym, subst, refl, ℕ, zero, suc, ℤ, pos, negsuc, neg_ℤ, ◌^◌, ◌<◌, ◌≤◌, ◌==◌, Bool, true, false, not, if◌then◌else◌, ◌&&◌, ◌||◌, nat_lt, nat_le, List, [], ◌∷◌, drop, length, get_or, Option, Some, None, arith}
use Rattle.std.specs.Prelude.{nat_eq, option_and_then}
use Rattle.std.specs.Cmp.Lexicographic.{same_text as told_same}
use Rattle.std.specs.Fmt.{decimal, signed_decimal}
use Rattle.std.specs.Str.Parse.{AllDigits, ParsesSigned, digits_value}
use Rattle.std.specs.declared.result.Result.TheVariants.{Ok, Err}
use Rattle.std.proofs.lemmas.Bool.Decides.{nat_tests}
use Rattle.std.proofs.lemmas.Fmt.{decimal_digit, decimal-digits_value, first_decimal, parse-signed_decimal}
use Rattle.std.proofs.lemmas.Str.Parse.{IsNumeralModel, numerals_by_value, parse_signed_minus, parse_signed_plain, tells_digits}
use lib.Signed.{mag}
use mir.Syntax.{w64}
use Rattle.wf_machine.specs.Text.{same_text}
use Rattle.wf_rules.specs.Outputs.{has_minus, minus, number_in, number_printed, signed}
use Rattle.wf_schedule.specs.Decimals.{begins_so}

own : IsNumeralModel (AllDigits 10) (digits_value 10)
own = numerals_by_value _ tells_digits

itself : (xs : List ℕ) → same_text xs xs ≡ true
itself [] = refl
itself (x ∷ xs) = let e : nat_eq x x ≡ true = grind (arith, nat_tests) in rw e (itself xs)

-- ---- how printed numbers begin

plain_begins : (text : List ℕ) → 48 < get_or text 0 0 → begins_so text ≡ true
plain_begins text high =
    let a : (get_or text 0 0 == 45) ≡ false = grind (arith, nat_tests) in
    let b : (get_or text 0 0 == 43) ≡ false = grind (arith, nat_tests) in
    let c : (get_or text 0 0 == 48) ≡ false = grind (arith, nat_tests) in
    rw (a, b, c) refl

minus_begins : (ds : List ℕ) → 48 < get_or ds 0 0 → begins_so (45 ∷ ds) ≡ true
minus_begins ds high = let a : (get_or ds 0 0 == 48) ≡ false = grind (arith, nat_tests) in rw a refl

begins_printed : (z : ℤ) → mag z < 2 ^ 63 → begins_so (signed_decimal z) ≡ true
begins_printed (pos zero) small = ap begins_so (decimal_digit 0 (omega arith))
begins_printed (pos (suc n)) small = plain_begins (decimal (suc n)) (first_decimal (suc n) (omega arith) (omega (arith, small)))
begins_printed (negsuc n) small = minus_begins (decimal (suc n)) (first_decimal (suc n) (omega arith) (omega (arith, small)))

-- ---- a text that is a printed number

minus_small : (n : ℕ) → n ≤ 2 ^ 63 → mag (minus n) < 2 ^ 63
minus_small zero low = omega arith
minus_small (suc n) low = omega (arith, low)

signed_small : (b : Bool) (n : ℕ) (z : ℤ) → signed b n ≡ Some z → mag z < 2 ^ 63
signed_small true n z e = by_test (nat_le n (2 ^ 63)) refl e where
  by_test : (t : Bool) → nat_le n (2 ^ 63) ≡ t → (if t then Some (minus n) else None) ≡ Some z → mag z < 2 ^ 63
  by_test true is f = let same : minus n ≡ z = cc in let low : n ≤ 2 ^ 63 = grind (arith, nat_tests) in subst (λ y. mag y < 2 ^ 63) same (minus_small n low)
  by_test false is f = let no : ⊥ = cc in absurd no
signed_small false n z e = by_test (nat_lt n (2 ^ 63)) refl e where
  by_test : (t : Bool) → nat_lt n (2 ^ 63) ≡ t → (if t then Some (pos n) else None) ≡ Some z → mag z < 2 ^ 63
  by_test true is f = let same : pos n ≡ z = cc in let low : n < 2 ^ 63 = grind (arith, nat_tests) in subst (λ y. mag y < 2 ^ 63) same low
  by_test false is f = let no : ⊥ = cc in absurd no

pub record IsPrinted (text : List ℕ) (z : ℤ) : Type 0 where
  pub same : text ≡ signed_decimal z
  pub small : mag z < 2 ^ 63

printed_text : (text : List ℕ) (z : ℤ) → number_printed text ≡ Some z → IsPrinted text z
printed_text text z e = by_number (number_in text) (λ y is. signed_small (has_minus text) (digits_value 10 (if has_minus text then drop 1 text else text)) y is) e where
  by_test : (y : ℤ) (t : Bool) → mag y < 2 ^ 63 → same_text text (signed_decimal y) ≡ t → (if t then Some y else None) ≡ Some z → IsPrinted text z
  by_test y true small is f = let same : y ≡ z = cc in subst (λ x. IsPrinted text x) same (record { same = told_same text (signed_decimal y) (sym is); small = small })
  by_test y false small is f = let no : ⊥ = cc in absurd no

  by_number : (o : Option ℤ) → ((y : ℤ) → o ≡ Some y → mag y < 2 ^ 63) → option_and_then (λ y. if same_text text (signed_decimal y) then Some y else None) o ≡ Some z → IsPrinted text z
  by_number None small f = let no : ⊥ = cc in absurd no
  by_number (Some y) small f = by_test y (same_text text (signed_decimal y)) (small y refl) refl f

never : (o : Option ℤ) → ((z : ℤ) → o ≡ Some z → ⊥) → None ≡ o
never None nothing = refl
never (Some z) nothing = absurd (nothing z refl)

pub begins_otherwise : (text : List ℕ) → begins_so text ≡ false → None ≡ number_printed text
begins_otherwise text other = never (number_printed text) (λ z is.
    let p = printed_text text z is in
    let begins : begins_so text ≡ true = ap begins_so p.same ∙ begins_printed z p.small in
    let no : true ≡ false = sym begins ∙ other in
    cc)

pub unreadable : {E : Type 0} (text : List ℕ) (fault : E) → ParsesSigned w64 10 text (Err fault) → None ≡ number_printed text
unreadable {E = E} text fault parsed = never (number_printed text) (λ z is.
    let p = printed_text text z is in
    let no = parse-signed_decimal w64 z text (Err fault) (record { sfits = p.small }) p.small p.same parsed in
    cc)

-- ---- a text that is read as a number and begins so

is_number : (text : List ℕ) (z : ℤ) → number_in text ≡ Some z → text ≡ signed_decimal z → Some z ≡ number_printed text
is_number text z number same =
    let tested : same_text text (signed_decimal z) ≡ true = ap (same_text text) (sym same) ∙ itself text in
    sym (ap (option_and_then (λ y. if same_text text (signed_decimal y) then Some y else None)) number ∙ ap (λ t. if t then Some z else None) tested)

number_minus : (ds : List ℕ) (n : ℕ) → digits_value 10 ds ≡ suc n → suc n ≤ 2 ^ 63 → number_in (45 ∷ ds) ≡ Some (negsuc n)
number_minus ds n value low =
    let fits : nat_le (suc n) (2 ^ 63) ≡ true = grind (arith, nat_tests) in
    ap (signed true) value ∙ ap (λ t. if t then Some (negsuc n) else None) fits

number_plain : (text : List ℕ) → (get_or text 0 0 == 45) ≡ false → digits_value 10 text < 2 ^ 63 → number_in text ≡ Some (pos (digits_value 10 text))
number_plain text plain low =
    let fits : nat_lt (digits_value 10 text) (2 ^ 63) ≡ true = grind (arith, nat_tests) in
    ap (λ b. signed b (digits_value 10 (if b then drop 1 text else text))) plain ∙ ap (λ t. if t then Some (pos (digits_value 10 text)) else None) fits

minus_read : (ds : List ℕ) (n : ℕ) (z : ℤ) → digits_value 10 ds ≡ n → AllDigits 10 ds → 0 < length ds → get_or ds 0 0 ≢ 48 → n ≤ 2 ^ 63 → z ≡ neg_ℤ (pos n) → Some z ≡ number_printed (45 ∷ ds)
minus_read ds zero z value d some other low is =
    let back : decimal (digits_value 10 ds) ≡ ds = decimal-digits_value own ds d some (λ e. absurd (other e)) (omega (arith, value)) in
    let first : get_or ds 0 0 ≡ 48 = sym (ap (λ xs. get_or xs 0 0) back) ∙ ap (λ n. get_or (decimal n) 0 0) value ∙ ap (λ xs. get_or xs 0 0) (decimal_digit 0 (omega arith)) in
    absurd (other first)
minus_read ds (suc n) z value d some other low is =
    let back : decimal (digits_value 10 ds) ≡ ds = decimal-digits_value own ds d some (λ e. absurd (other e)) (omega (arith, value, low)) in
    let same : ds ≡ decimal (suc n) = sym back ∙ ap decimal value in
    ap Some is ∙ is_number (45 ∷ ds) (negsuc n) (number_minus ds n value low) (ap (λ xs. 45 ∷ xs) same)

plain_read : (text : List ℕ) → (get_or text 0 0 == 45) ≡ false → AllDigits 10 text → 0 < length text → (get_or text 0 0 ≡ 48 → length text ≡ 1) → digits_value 10 text < 2 ^ 63
    → Some (pos (digits_value 10 text)) ≡ number_printed text
plain_read text plain d some lead low =
    is_number text (pos (digits_value 10 text)) (number_plain text plain low) (sym (decimal-digits_value own text d some lead (omega (arith, low))))

first_of : (a b : Bool) → (a && b) ≡ true → a ≡ true
first_of true b e = refl
first_of false b e = e

second_of : (a b : Bool) → (a && b) ≡ true → b ≡ true
second_of true b e = e
second_of false b e = cc

other_of : (a b : Bool) → (not a || b) ≡ true → a ≡ true → b ≡ true
other_of true b e f = e
other_of false b e f = cc

no_plus : (c : ℕ) (b : Bool) → (not (c == 43) && b) ≡ true → c ≢ 43
no_plus c b h = let a : not (c == 43) ≡ true = first_of (not (c == 43)) b h in grind (arith, nat_tests)

one_zero : (c l : ℕ) → (not (c == 43) && (not (c == 48) || (l == 1))) ≡ true → c ≡ 48 → l ≡ 1
one_zero c l h is =
    let a : (c == 48) ≡ true = grind (arith, nat_tests) in
    let b : (l == 1) ≡ true = other_of (c == 48) (l == 1) (second_of (not (c == 43)) _ h) a in
    grind (arith, nat_tests)

pub readable : (E : Type 0) (text : List ℕ) (z : ℤ) → ParsesSigned {E = E} w64 10 text (Ok z) → begins_so text ≡ true → Some z ≡ number_printed text
readable E text z parsed begins = by_sign (get_or text 0 0 == 45) refl begins where
  by_sign : (t : Bool) → (get_or text 0 0 == 45) ≡ t → (if t then not (get_or text 1 0 == 48) else not (get_or text 0 0 == 43) && (not (get_or text 0 0 == 48) || (length text == 1))) ≡ true → Some z ≡ number_printed text
  by_sign true is h = with_minus text (grind (arith, nat_tests)) parsed h where
    with_minus : (xs : List ℕ) → get_or xs 0 0 ≡ 45 → ParsesSigned {E = E} w64 10 xs (Ok z) → not (get_or xs 1 0 == 48) ≡ true → Some z ≡ number_printed xs
    with_minus [] first p q = absurd (omega (arith, first))
    with_minus (c ∷ ds) first p q =
        let k = parse_signed_minus own {E = E} w64 (c ∷ ds) (Ok z) p first in
        let other : get_or ds 0 0 ≢ 48 = grind (arith, nat_tests) in
        minus_read ds (digits_value 10 ds) z refl k.0.0 k.0.1 other k.0.2 k.1 ∙ ap (λ b. number_printed (b ∷ ds)) (sym first)
  by_sign false is h =
      let other : get_or text 0 0 ≢ 45 = grind (arith, nat_tests) in
      let k = parse_signed_plain own {E = E} w64 text (Ok z) parsed (no_plus (get_or text 0 0) _ h) other in
      ap Some k.1 ∙ plain_read text is k.0.0 k.0.1 (one_zero (get_or text 0 0) (length text) h) k.0.2
