-- Texts that name one turn of a loop.
use Rattle.std.proofs.Common.{◌≡◌, ◌≢◌, ◌∙◌, ap, sym, refl, ℕ, zero, suc, ◌+◌, ◌-◌, ◌*◌, ◌/◌, ◌%◌, ◌^◌, ◌<◌, ◌≤◌, ◌==◌, Bool, true, false, not, if◌then◌else◌, ◌&&◌, nat_lt, nat_le, List, [], ◌∷◌, ◌++◌, take, drop, length, get_or, append_assoc, append-nil, min, arith}
use Rattle.std.specs.Prelude.{codes, nat_eq, slice_index, Some, None}
use Rattle.std.specs.Char.{is_ascii_digit, digit_value}
use Rattle.std.specs.Cmp.Lexicographic.{pointwise, same_text as told_same}
use Rattle.std.specs.Fmt.{decimal, digits, digits_onto, digit_glyph}
use Rattle.std.specs.List.{list_all}
use Rattle.std.specs.Str.Parse.{AllDigits, digits_value, digits_value_after}
use Rattle.std.proofs.lemmas.Bool.Decides.{nat_tests}
use Rattle.std.proofs.lemmas.Fmt.{decimal_digit, decimal_step_wide, decimal_by_steps_wide}
use Rattle.std.proofs.lemmas.Int.Digits.{digits_value-lt, digits_value_push}
use Rattle.std.proofs.lemmas.List.{length-append, take-append-drop, take_more}
use Rattle.std.proofs.lemmas.List.Folds.{list_all_at}
use Rattle.std.proofs.lemmas.Str.{digit_value_digit}
use Rattle.std.proofs.lemmas.Str.Parse.{digit_from_value}
use Rattle.std.proofs.Math.Nat.{pow-le-pow_right}
use Rattle.std.proofs.Math.Seq.{drop-append-add, take-append_seam, drop-append_seam}
use Rattle.wf_machine.specs.Text.{same_text}
use Rattle.wf_machine.specs.Documents.{reference_text}
use Rattle.wf_machine.specs.Naming.{names_turn, turn_named}
use Rattle.wf_flow.specs.Turns.{begins_turn, is_turn}

-- ---- tests

same_test : (a b : Bool) → (a ≡ true → b ≡ true) → (b ≡ true → a ≡ true) → a ≡ b
same_test true b f g = sym (f refl)
same_test false true f g = g refl
same_test false false f g = refl

first_of : (a b : Bool) → (a && b) ≡ true → a ≡ true
first_of true b e = refl
first_of false b e = e

second_of : (a b : Bool) → (a && b) ≡ true → b ≡ true
second_of true b e = e
second_of false b e = cc

both_of : (a b : Bool) → a ≡ true → b ≡ true → (a && b) ≡ true
both_of a b e f = rw (e, f) refl

never : (a : Bool) → (a ≡ true → ⊥) → a ≡ false
never true f = absurd (f refl)
never false f = refl

itself : (xs : List ℕ) → pointwise nat_eq xs xs ≡ true
itself [] = refl
itself (x ∷ xs) = let e : nat_eq x x ≡ true = grind (arith, nat_tests) in rw e (itself xs)

same_front : (front xs ys : List ℕ) → pointwise nat_eq (front ++ xs) (front ++ ys) ≡ pointwise nat_eq xs ys
same_front [] xs ys = refl
same_front (x ∷ front) xs ys = let e : nat_eq x x ≡ true = grind (arith, nat_tests) in rw e (same_front front xs ys)

-- ---- decimals of up to 64 digits

le_after : (n : ℕ) (ds : List ℕ) → n ≤ digits_value_after 10 n ds
le_after n [] = omega arith
le_after n (c ∷ cs) = omega (arith, le_after (n * 10 + digit_value c) cs)

decimal_after : (n : ℕ) (ds : List ℕ) → 0 < n → AllDigits 10 ds → digits_value_after 10 n ds < 10 ^ 64 → decimal (digits_value_after 10 n ds) ≡ decimal n ++ ds
decimal_after n [] some d small = sym (append-nil (decimal n))
decimal_after n (c ∷ cs) some d small =
    let m : ℕ = n * 10 + digit_value c in
    let k = digit_value_digit c (digit_from_value c d.0) in
    let front : m / 10 ≡ n = omega (arith, d.0) in
    let end : 48 + m % 10 ≡ c = omega (arith, d.0) in
    decimal_after m cs (omega arith) d.1 small
    ∙ ap (λ x. x ++ cs) (decimal_step_wide m (omega arith) (omega (arith, le_after m cs)) ∙ (λ i. decimal (front i) ++ (end i ∷ [])))
    ∙ append_assoc (decimal n) (c ∷ []) cs

decimal_back : (ds : List ℕ) → AllDigits 10 ds → 0 < length ds → get_or ds 0 0 ≢ 48 → digits_value 10 ds < 10 ^ 64 → decimal (digits_value 10 ds) ≡ ds
decimal_back [] d some lead small = absurd (omega arith)
decimal_back (c ∷ cs) d some lead small =
    let k = digit_value_digit c (digit_from_value c d.0) in
    let high : 0 < 0 * 10 + digit_value c = omega (arith, lead) in
    let is : 48 + (0 * 10 + digit_value c) ≡ c = omega arith in
    decimal_after (0 * 10 + digit_value c) cs high d.1 small
    ∙ ap (λ x. x ++ cs) (decimal_digit (0 * 10 + digit_value c) (omega (arith, d.0)) ∙ ap (λ x. x ∷ []) is)

value_high : (ds : List ℕ) → AllDigits 10 ds → 0 < length ds → get_or ds 0 0 ≢ 48 → 0 < digits_value 10 ds
value_high [] d some lead = absurd (omega arith)
value_high (c ∷ cs) d some lead =
    let k = digit_value_digit c (digit_from_value c d.0) in
    let high : 0 < 0 * 10 + digit_value c = omega (arith, lead) in
    omega (arith, high, le_after (0 * 10 + digit_value c) cs)

value_small : (ds : List ℕ) → AllDigits 10 ds → length ds ≤ 64 → digits_value 10 ds < 10 ^ 64
value_small ds d short = omega (arith, digits_value-lt 10 ds d, pow-le-pow_right {n = 10} (omega arith) short)

first_stays : (xs ys : List ℕ) → 0 < length xs → get_or (xs ++ ys) 0 0 ≡ get_or xs 0 0
first_stays [] ys some = absurd (omega (arith, some))
first_stays (x ∷ xs) ys some = refl

first_high : (n : ℕ) → 0 < n → n < 10 ^ 64 → 48 < get_or (decimal n) 0 0
first_high n some small = (decimal_by_steps_wide (λ m ds. (0 < length ds) × (0 < m → 48 < get_or ds 0 0)) (λ m l. (omega arith, λ a. omega arith))
    (λ m ds l h. (omega (arith, length-append ds ((48 + m % 10) ∷ [])), λ a. omega (arith, first_stays ds ((48 + m % 10) ∷ []) h.0, h.1 (omega arith)))) n small).1 some

-- ---- decimals of any number

glyph_is_digit : (n : ℕ) → is_ascii_digit (digit_glyph false (n % 10)) ≡ true
glyph_is_digit n =
    let below : n % 10 < 10 = omega arith in
    let low : nat_lt (n % 10) 10 ≡ true = grind (arith, nat_tests) in
    let is : digit_glyph false (n % 10) ≡ 48 + n % 10 = ap (λ b. if b then 48 + n % 10 else 87 + n % 10) low in
    ap is_ascii_digit is ∙ digit_here (n % 10) below
  where
    digit_here : (d : ℕ) → d < 10 → is_ascii_digit (48 + d) ≡ true
    digit_here d low = grind (arith, nat_tests)

chosen : (P : List ℕ → Type 0) (b : Bool) (xs ys : List ℕ) → P xs → P ys → P (if b then xs else ys)
chosen P true xs ys p q = p
chosen P false xs ys p q = q

onto_digits : (k n : ℕ) (acc : List ℕ) → list_all is_ascii_digit acc ≡ true → list_all is_ascii_digit (digits_onto k 10 false n acc) ≡ true
onto_digits zero n acc all = all
onto_digits (suc k) n acc all =
    let more : list_all is_ascii_digit (digit_glyph false (n % 10) ∷ acc) ≡ true = both_of _ _ (glyph_is_digit n) all in
    chosen (λ l. list_all is_ascii_digit l ≡ true) (n / 10 == 0) _ _ more (onto_digits k (n / 10) (digit_glyph false (n % 10) ∷ acc) more)

onto_length : (k n : ℕ) (acc : List ℕ) → length (digits_onto k 10 false n acc) ≤ k + length acc
onto_length zero n acc = omega arith
onto_length (suc k) n acc =
    let more = onto_length k (n / 10) (digit_glyph false (n % 10) ∷ acc) in
    chosen (λ l. length l ≤ suc k + length acc) (n / 10 == 0) _ _ (omega arith) (omega (arith, more))

decimal_digits : (n : ℕ) → list_all is_ascii_digit (decimal n) ≡ true
unfolding digits
decimal_digits n = onto_digits 64 n [] refl

decimal_length : (n : ℕ) → length (decimal n) ≤ 64
unfolding digits
decimal_length n = omega (arith, onto_length 64 n [])

all_digits : (ds : List ℕ) → list_all is_ascii_digit ds ≡ true → AllDigits 10 ds
all_digits [] all = tt
all_digits (c ∷ cs) all =
    let here : is_ascii_digit c ≡ true = first_of _ (list_all is_ascii_digit cs) all in
    let k = digit_value_digit c (grind (arith, nat_tests)) in
    let high : c ≤ 57 = grind (arith, nat_tests) in
    (omega (arith, k, high), all_digits cs (second_of (is_ascii_digit c) _ all))

-- ---- the number of a turn

is_by_digits : (ds : List ℕ) → begins_turn ds ≡ true → list_all is_ascii_digit ds ≡ true → is_turn ds ≡ true
is_by_digits ds begins all =
    let d = all_digits ds all in
    let one : (not (length ds == 0) && not (slice_index ds 0 == 48)) ≡ true = first_of _ (nat_le (length ds) 64) begins in
    let there : not (length ds == 0) ≡ true = first_of _ _ one in
    let lead : not (slice_index ds 0 == 48) ≡ true = second_of (not (length ds == 0)) _ one in
    let short : nat_le (length ds) 64 ≡ true = second_of (not (length ds == 0) && not (slice_index ds 0 == 48)) (nat_le (length ds) 64) begins in
    let some : 0 < length ds = grind (arith, nat_tests) in
    let other : get_or ds 0 0 ≢ 48 = grind (arith, nat_tests) in
    let few : length ds ≤ 64 = grind (arith, nat_tests) in
    let high = value_high ds d some other in
    let back = decimal_back ds d some other (value_small ds d few) in
    let positive : nat_lt 0 (digits_value 10 ds) ≡ true = grind (arith, nat_tests) in
    both_of _ _ positive (ap (pointwise nat_eq ds) back ∙ itself ds)

same_decimal : (ds : List ℕ) → is_turn ds ≡ true → ds ≡ decimal (digits_value 10 ds)
same_decimal ds is = told_same ds (decimal (digits_value 10 ds)) (sym (second_of (nat_lt 0 (digits_value 10 ds)) _ is))

digits_of_turn : (ds : List ℕ) → is_turn ds ≡ true → list_all is_ascii_digit ds ≡ true
digits_of_turn ds is = ap (list_all is_ascii_digit) (same_decimal ds is) ∙ decimal_digits (digits_value 10 ds)

turn_begins : (ds : List ℕ) → is_turn ds ≡ true → begins_turn ds ≡ true
turn_begins ds is =
    let same = same_decimal ds is in
    let d = all_digits ds (digits_of_turn ds is) in
    let short : length ds ≤ 64 = omega (arith, ap length same, decimal_length (digits_value 10 ds)) in
    let test : nat_lt 0 (digits_value 10 ds) ≡ true = first_of _ (same_text ds (decimal (digits_value 10 ds))) is in
    let positive : 0 < digits_value 10 ds = grind (arith, nat_tests) in
    let first : 48 < get_or ds 0 0 = omega (arith, first_high (digits_value 10 ds) positive (value_small ds d short), ap (λ xs. get_or xs 0 0) same) in
    let some : 0 < length ds = there ds first in
    let one : not (length ds == 0) ≡ true = grind (arith, nat_tests) in
    let two : not (slice_index ds 0 == 48) ≡ true = grind (arith, nat_tests) in
    let three : nat_le (length ds) 64 ≡ true = grind (arith, nat_tests) in
    both_of _ _ (both_of _ _ one two) three
  where
    there : (xs : List ℕ) → 48 < get_or xs 0 0 → 0 < length xs
    there [] h = absurd (omega (arith, h))
    there (x ∷ xs) h = omega arith

pub turn_by_digits : (ds : List ℕ) → (begins_turn ds && list_all is_ascii_digit ds) ≡ is_turn ds
turn_by_digits ds =
    same_test _ _
    (λ both. is_by_digits ds (first_of _ (list_all is_ascii_digit ds) both) (second_of (begins_turn ds) _ both))
    (λ is. both_of _ _ (turn_begins ds is) (digits_of_turn ds is))

pub turn_if_begun : (ds : List ℕ) → begins_turn ds ≡ true → list_all is_ascii_digit ds ≡ is_turn ds
turn_if_begun ds begins = ap (λ b. b && list_all is_ascii_digit ds) (sym begins) ∙ turn_by_digits ds

pub no_turn_begun : (ds : List ℕ) → begins_turn ds ≡ false → begins_turn ds ≡ is_turn ds
no_turn_begun ds begins = begins ∙ ap (λ b. b && list_all is_ascii_digit ds) (sym begins) ∙ turn_by_digits ds

-- ---- behind a reference

behind : (reference ds : List ℕ) → drop (length reference + 2) (reference ++ codes "__" ++ ds) ≡ ds
behind reference ds = ap (drop (length reference + 2)) (append_assoc reference (codes "__") ds) ∙ drop-append-add reference (codes "__" ++ ds) 2

named_behind : (reference ds : List ℕ) → turn_named reference (reference ++ codes "__" ++ ds) ≡ digits_value 10 ds
named_behind reference ds = ap (digits_value 10) (behind reference ds)

zero_or_more : (n : ℕ) → (n == 0) ≡ true → nat_lt 0 n ≡ false
zero_or_more n e = grind (arith, nat_tests)

by_value : (n : ℕ) (reference ds : List ℕ) → (nat_lt 0 n && same_text (reference ++ codes "__" ++ ds) (reference_text reference n)) ≡ (nat_lt 0 n && same_text ds (decimal n))
by_value n reference ds = by_tests (nat_lt 0 n) (n == 0) (zero_or_more n) where
  by_tests : (a b : Bool) → (b ≡ true → a ≡ false)
      → (a && same_text (reference ++ codes "__" ++ ds) (if b then reference else reference ++ codes "__" ++ decimal n)) ≡ (a && same_text ds (decimal n))
  by_tests false b f = refl
  by_tests true true f = let no : true ≡ false = f refl in cc
  by_tests true false f = same_front (reference ++ codes "__") ds (decimal n)

turn_behind : (reference ds : List ℕ) → names_turn reference (reference ++ codes "__" ++ ds) ≡ is_turn ds
turn_behind reference ds =
    ap (λ n. nat_lt 0 n && same_text (reference ++ codes "__" ++ ds) (reference_text reference n)) (named_behind reference ds)
    ∙ by_value (digits_value 10 ds) reference ds

-- what stands behind a reference and the underscores is the number, where it is one
pub turn_found : (reference text ds : List ℕ) → text ≡ reference ++ codes "__" ++ ds → is_turn ds ≡ true
    → Some ds ≡ (if names_turn reference text then Some (drop (length reference + 2) text) else None)
turn_found reference text ds whole is =
    let named : names_turn reference text ≡ true = ap (names_turn reference) whole ∙ turn_behind reference ds ∙ is in
    let part : drop (length reference + 2) text ≡ ds = ap (drop (length reference + 2)) whole ∙ behind reference ds in
    rw (named, part) refl

pub turn_not_found : (reference text ds : List ℕ) → text ≡ reference ++ codes "__" ++ ds → is_turn ds ≡ false
    → None ≡ (if names_turn reference text then Some (drop (length reference + 2) text) else None)
turn_not_found reference text ds whole is =
    let named : names_turn reference text ≡ false = ap (names_turn reference) whole ∙ turn_behind reference ds ∙ is in
    rw named refl

pub turn_missing : (reference text : List ℕ) → names_turn reference text ≡ false → None ≡ (if names_turn reference text then Some (drop (length reference + 2) text) else None)
turn_missing reference text named = rw named refl

named_so : (b : Bool) (ds es : List ℕ) → Some ds ≡ (if b then Some es else None) → true ≡ b
named_so true ds es e = refl
named_so false ds es e = let no : ⊥ = cc in absurd no

missing_so : (b : Bool) (es : List ℕ) → None ≡ (if b then Some es else None) → false ≡ b
missing_so true es e = let no : ⊥ = cc in absurd no
missing_so false es e = refl

-- what the answer tells
pub turn_is_named : (reference text ds : List ℕ) → Some ds ≡ (if names_turn reference text then Some (drop (length reference + 2) text) else None) → true ≡ names_turn reference text
turn_is_named reference text ds e = named_so (names_turn reference text) ds (drop (length reference + 2) text) e

pub turn_is_missing : (reference text : List ℕ) → None ≡ (if names_turn reference text then Some (drop (length reference + 2) text) else None) → false ≡ names_turn reference text
turn_is_missing reference text e = missing_so (names_turn reference text) (drop (length reference + 2) text) e

pub turn_all_digits : (ds : List ℕ) → is_turn ds ≡ true → list_all is_ascii_digit ds ≡ true
turn_all_digits ds is = digits_of_turn ds is

-- the text that names a turn begins with the reference and the underscores
whole_named : (n : ℕ) (reference text : List ℕ) → (nat_lt 0 n && same_text text (reference_text reference n)) ≡ true → text ≡ reference ++ codes "__" ++ decimal n
whole_named n reference text named = by_tests (nat_lt 0 n) (n == 0) (zero_or_more n) named where
  by_tests : (a b : Bool) → (b ≡ true → a ≡ false)
      → (a && same_text text (if b then reference else reference ++ codes "__" ++ decimal n)) ≡ true → text ≡ reference ++ codes "__" ++ decimal n
  by_tests false b f e = cc
  by_tests true true f e = let no : true ≡ false = f refl in cc
  by_tests true false f e = told_same text (reference ++ codes "__" ++ decimal n) (sym e)

pub no_front : (reference text : List ℕ) → pointwise nat_eq (take (length reference) text) reference ≡ false → names_turn reference text ≡ false
no_front reference text other = never (names_turn reference text) (λ named.
    let whole = whole_named (turn_named reference text) reference text named in
    let front : take (length reference) text ≡ reference = ap (take (length reference)) (whole ∙ append_assoc reference (codes "__") (decimal (turn_named reference text))) ∙ take-append_seam reference (codes "__" ++ decimal (turn_named reference text)) in
    let same : pointwise nat_eq (take (length reference) text) reference ≡ true = ap (λ xs. pointwise nat_eq xs reference) front ∙ itself reference in
    let no : true ≡ false = sym same ∙ other in
    cc)

pub no_underscores : (reference text rest : List ℕ) → rest ≡ drop (length reference) text → pointwise nat_eq (take 2 rest) (codes "__") ≡ false → names_turn reference text ≡ false
no_underscores reference text rest is other = never (names_turn reference text) (λ named.
    let whole = whole_named (turn_named reference text) reference text named in
    let after : rest ≡ codes "__" ++ decimal (turn_named reference text) = is ∙ ap (drop (length reference)) (whole ∙ append_assoc reference (codes "__") (decimal (turn_named reference text))) ∙ drop-append_seam reference (codes "__" ++ decimal (turn_named reference text)) in
    let same : pointwise nat_eq (take 2 rest) (codes "__") ≡ true = ap (λ xs. pointwise nat_eq (take 2 xs) (codes "__")) after in
    let no : true ≡ false = sym same ∙ other in
    cc)

pub parts_found : (reference text rest ds : List ℕ) → pointwise nat_eq (take (length reference) text) reference ≡ true → rest ≡ drop (length reference) text
    → pointwise nat_eq (take 2 rest) (codes "__") ≡ true → ds ≡ drop 2 rest → text ≡ reference ++ codes "__" ++ ds
parts_found reference text rest ds front is marks end =
    sym (take-append-drop (length reference) text)
    ∙ (λ i. told_same (take (length reference) text) reference (sym front) i ++ sym is i)
    ∙ ap (λ xs. reference ++ xs) (sym (take-append-drop 2 rest) ∙ (λ i. told_same (take 2 rest) (codes "__") (sym marks) i ++ sym end i))
    ∙ sym (append_assoc reference (codes "__") ds)

-- ---- digits, one more

digit_here : (x : ℕ) → is_ascii_digit x ≡ true → digit_value x + 48 ≡ x
digit_here x h = digit_value_digit x (grind (arith, nat_tests))

test_here : (ds : List ℕ) (i : ℕ) (b : Bool) → is_ascii_digit (get_or ds i 0) ≡ b → list_all is_ascii_digit ds ≡ true → i < length ds → is_ascii_digit (get_or ds i 0) ≡ true
test_here ds i true e all within = e
test_here ds i false e all within = let none : true ≡ false = sym all ∙ list_all_at is_ascii_digit ds i 0 within e in cc

pub capped_more : (ds : List ℕ) (i n m r : ℕ) → list_all is_ascii_digit ds ≡ true → i < length ds → n ≡ min (digits_value 10 (take i ds)) 18446744073709551615 → m ≡ min (n * 10) 18446744073709551615
    → r ≡ min (m + (get_or ds i 0 - 48)) 18446744073709551615 → r ≡ min (digits_value 10 (take (i + 1) ds)) 18446744073709551615
capped_more ds i n m r all within so_far times plus =
    let more : digits_value 10 (take (i + 1) ds) ≡ digits_value 10 (take i ds) * 10 + digit_value (get_or ds i 0) = ap (digits_value 10) (take_more ds i 0 within) ∙ digits_value_push 10 (take i ds) (get_or ds i 0) in
    let digit : digit_value (get_or ds i 0) + 48 ≡ get_or ds i 0 = digit_here (get_or ds i 0) (test_here ds i _ refl all within) in
    omega (arith, more, digit)

-- ---- turns in loops

pub no_turn : (looped named : Bool) → named ≡ false → false ≡ (looped && named)
no_turn true named e = sym e
no_turn false named e = refl

pub only_looped : (looped named : Bool) → named ≡ true → looped ≡ (looped && named)
only_looped true named e = sym e
only_looped false named e = refl
