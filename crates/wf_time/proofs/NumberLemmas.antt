-- The value of digits grows with each digit.
use Rattle.std.proofs.Common.{◌≡◌, ◌∙◌, ℕ, ◌+◌, ◌*◌, ◌-◌, ◌<◌, ◌≤◌, IsTrue, subst, Bool, true, false, List, [], ◌∷◌, length, get_or, drop, refl, sym, arith, Some, None}
use Rattle.std.specs.Prelude.{◌&&◌}
use Rattle.std.proofs.lemmas.List.{at_drop_more}
use Rattle.std.proofs.lemmas.Bool.Decides.{nat_tests}
use Rattle.std.specs.Char.{digit_value, is_ascii_digit}
use Rattle.std.specs.List.{list_all}
use Rattle.std.specs.Str.Parse.{digits_value, digits_value_after}
use Rattle.wf_time.specs.Durations.{capped}
use Rattle.wf_time.proofs.SumLemmas.{capped_past}

grows_after : (n : ℕ) (ds : List ℕ) → n ≤ digits_value_after 10 n ds
grows_after n [] = omega arith
grows_after n (d ∷ ds) = omega (arith, grows_after (n * 10 + digit_value d) ds)

digit_is : (b : ℕ) → is_ascii_digit b ≡ true → digit_value b ≡ b - 48
digit_is b d = grind (arith, nat_tests)

by_value : (v w : Bool) → IsTrue (v && w) → v ≡ true
by_value true w h = refl
by_value false w h = h

first_true : (b : ℕ) (bs : List ℕ) → IsTrue (list_all is_ascii_digit (b ∷ bs)) → is_ascii_digit b ≡ true
first_true b bs h = by_value (is_ascii_digit b) (list_all is_ascii_digit bs) h

-- one digit more makes the value too great
pub too_great : (sum i : ℕ) (text : List ℕ) → digits_value 10 text ≡ digits_value_after 10 sum (drop i text) → i < length text → IsTrue (list_all is_ascii_digit (drop i text))
    → 2147483647 < sum * 10 + (get_or text i 0 - 48) → None ≡ capped (Some (digits_value 10 text))
too_great sum i text kept inside digits over =
    let b : ℕ = get_or text i 0 in
    let value : digits_value 10 text ≡ digits_value_after 10 (sum * 10 + digit_value b) (drop (i + 1) text) = kept ∙ at_drop_more (digits_value_after 10 sum) text i 0 inside in
    let here : is_ascii_digit b ≡ true = first_true b (drop (i + 1) text) (subst IsTrue (at_drop_more (list_all is_ascii_digit) text i 0 inside) digits) in
    let great : 2147483647 < digits_value 10 text = omega (arith, value, digit_is b here, grows_after (sum * 10 + digit_value b) (drop (i + 1) text), over) in
    sym (capped_past (digits_value 10 text) great)
