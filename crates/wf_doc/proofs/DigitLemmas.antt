-- The value of digits, one digit more.
use Rattle.std.proofs.Common.{◌≡◌, ◌∙◌, ap, sym, ℕ, ◌<◌, ◌+◌, ◌-◌, ◌*◌, min, List, take, length, get_or, Bool, true, false, refl, arith}
use Rattle.std.proofs.lemmas.Bool.Decides.{nat_tests}
use Rattle.std.proofs.lemmas.List.Folds.{list_all_at}
use Rattle.std.specs.List.{list_all}
use Rattle.std.specs.Char.{is_ascii_digit, digit_value}
use Rattle.std.specs.Str.Parse.{digits_value}
use Rattle.std.proofs.lemmas.Int.Digits.{digits_value_push}
use Rattle.std.proofs.lemmas.List.{take_more}
use Rattle.std.proofs.lemmas.Str.{digit_value_digit}

digit_here : (x : ℕ) → is_ascii_digit x ≡ true → digit_value x + 48 ≡ x
digit_here x h = digit_value_digit x (grind (arith, nat_tests))

test_here : (ds : List ℕ) (i : ℕ) (b : Bool) → is_ascii_digit (get_or ds i 0) ≡ b → list_all is_ascii_digit ds ≡ true → i < length ds → is_ascii_digit (get_or ds i 0) ≡ true
test_here ds i true e all within = e
test_here ds i false e all within = let none : true ≡ false = sym all ∙ list_all_at is_ascii_digit ds i 0 within e in cc

pub capped_more : (ds : List ℕ) (i n m r : ℕ) → list_all is_ascii_digit ds ≡ true → i < length ds → n ≡ min (digits_value 10 (take i ds)) 18446744073709551615 → m ≡ min (n * 10) 18446744073709551615
    → r ≡ min (m + (get_or ds i 0 - 48)) 18446744073709551615 → r ≡ min (digits_value 10 (take (i + 1) ds)) 18446744073709551615
capped_more ds i n m r all within so_far times plus =
    let more : digits_value 10 (take (i + 1) ds) ≡ digits_value 10 (take i ds) * 10 + digit_value (get_or ds i 0) = ap (digits_value 10) (take_more ds i 0 within) ∙ digits_value_push 10 (take i ds) (get_or ds i 0) in
    let digit : digit_value (get_or ds i 0) + 48 ≡ get_or ds i 0 = digit_here (get_or ds i 0) (test_here ds i _ refl all within) in
    omega (arith, more, digit)
