-- Two numbers have one value exactly where they are the same without the zeros in front.
use Rattle.std.proofs.Common.{◌≡◌, ◌∙◌, ℕ, zero, suc, ◌+◌, ◌*◌, ◌-◌, ◌<◌, IsTrue, Bool, true, false, List, [], ◌∷◌, length, get_or, eq-eqb, refl, sym, ap, arith, inl, inr}
use Rattle.std.specs.Prelude.{if◌then◌else◌, ◌&&◌, ◌==◌, not}
use Rattle.std.proofs.lemmas.Bool.Decides.{nat_tests}
use Rattle.std.proofs.lemmas.Bool.{cases_lt}
use Rattle.std.specs.Char.{digit_value, is_ascii_digit}
use Rattle.std.specs.List.{list_all}
use Rattle.std.specs.Str.Parse.{digits_value, digits_value_after}
use Rattle.std.specs.Str.{bytes_eq}
use lib.Pointwise.{bytes_decides}
use Rattle.wf_wire.specs.Fields.{is_number}
use Rattle.wf_wire.specs.Reading.{significant}

abbrev pub AreDigits : List ℕ → Type 0
AreDigits ds = IsTrue (list_all is_ascii_digit ds)

both : (v w : Bool) → IsTrue (v && w) → (v ≡ true) × IsTrue w
both true w h = (refl, h)
both false w h = cc

digit_range : (b : ℕ) → is_ascii_digit b ≡ true → (digit_value b + 48 ≡ b) × (digit_value b < 10)
digit_range b d = (grind (arith, nat_tests), grind (arith, nat_tests))

same_length : (n m : ℕ) (ds es : List ℕ) → length ds ≡ length es → AreDigits ds → AreDigits es → digits_value_after 10 n ds ≡ digits_value_after 10 m es → (n ≡ m) × (ds ≡ es)
same_length n m [] [] l a b e = (e, refl)
same_length n m [] (x ∷ es) l a b e = absurd (omega (arith, l))
same_length n m (x ∷ ds) [] l a b e = absurd (omega (arith, l))
same_length n m (d ∷ ds) (e ∷ es) l a b h =
    let p = both (is_ascii_digit d) (list_all is_ascii_digit ds) a in
    let q = both (is_ascii_digit e) (list_all is_ascii_digit es) b in
    let r = same_length (n * 10 + digit_value d) (m * 10 + digit_value e) ds es (omega (arith, l)) p.1 q.1 h in
    let i = digit_range d p.0 in
    let j = digit_range e q.0 in
    let first : d ≡ e = omega (arith, r.0, i.0, i.1, j.0, j.1) in
    (omega (arith, r.0, i.1, j.1), ap (λ x. x ∷ ds) first ∙ ap (λ xs. e ∷ xs) r.1)

-- zeros in front of digits
abbrev pub pad : ℕ → List ℕ → List ℕ
pad zero ds = ds
pad (suc k) ds = 48 ∷ pad k ds

pad_value : (k : ℕ) (ds : List ℕ) → digits_value_after 10 0 (pad k ds) ≡ digits_value_after 10 0 ds
pad_value zero ds = refl
pad_value (suc k) ds = pad_value k ds

pad_digits : (k : ℕ) (ds : List ℕ) → AreDigits ds → AreDigits (pad k ds)
pad_digits zero ds a = a
pad_digits (suc k) ds a = pad_digits k ds a

pad_length : (k : ℕ) (ds : List ℕ) → length (pad k ds) ≡ k + length ds
pad_length zero ds = omega arith
pad_length (suc k) ds = omega (arith, pad_length k ds)

step_same : (b : ℕ) (bs : List ℕ) (v : Bool) → (b == 48) ≡ v → digits_value_after 10 0 (significant bs) ≡ digits_value_after 10 0 bs → digits_value_after 10 0 (if v then significant bs else b ∷ bs) ≡ digits_value_after 10 0 (b ∷ bs)
step_same b bs true is more = more ∙ ap (λ x. digits_value_after 10 (0 * 10 + digit_value x) bs) (let e : 48 ≡ b = grind (arith, nat_tests, is) in e)
step_same b bs false is more = refl

significant_value : (ds : List ℕ) → digits_value_after 10 0 (significant ds) ≡ digits_value_after 10 0 ds
significant_value [] = refl
significant_value (b ∷ bs) = step_same b bs (b == 48) refl (significant_value bs)

step_digits : (b : ℕ) (bs : List ℕ) (v : Bool) → AreDigits (b ∷ bs) → (AreDigits bs → AreDigits (significant bs)) → AreDigits (if v then significant bs else b ∷ bs)
step_digits b bs true a more = more (both (is_ascii_digit b) (list_all is_ascii_digit bs) a).1
step_digits b bs false a more = a

significant_digits : (ds : List ℕ) → AreDigits ds → AreDigits (significant ds)
significant_digits [] a = a
significant_digits (b ∷ bs) a = step_digits b bs (b == 48) a (significant_digits bs)

both_tests : (v : Bool) → v ≡ false → v ≡ true → ⊥
both_tests true f t = cc
both_tests false f t = cc

step_first : (b : ℕ) (bs : List ℕ) (v : Bool) → (b == 48) ≡ v → ((xs : List ℕ) → significant bs ≡ 48 ∷ xs → ⊥) → (xs : List ℕ) → (if v then significant bs else b ∷ bs) ≡ 48 ∷ xs → ⊥
step_first b bs true is more xs e = more xs e
step_first b bs false is more xs e = let first : b ≡ 48 = ap (λ (ys : List ℕ). get_or ys 0 0) e in both_tests (b == 48) is (eq-eqb b 48 first)

no_zero : (ds xs : List ℕ) → significant ds ≡ 48 ∷ xs → ⊥
no_zero [] xs e = cc
no_zero (b ∷ bs) xs e = step_first b bs (b == 48) refl (no_zero bs) xs e

shorter : (v w : List ℕ) → AreDigits v → AreDigits w → digits_value 10 v ≡ digits_value 10 w → (k : ℕ) → k + length (significant v) ≡ length (significant w) → significant v ≡ significant w
shorter v w a b e zero l = (same_length 0 0 (significant v) (significant w) (omega (arith, l)) (significant_digits v a) (significant_digits w b) (significant_value v ∙ e ∙ sym (significant_value w))).1
shorter v w a b e (suc k) l = absurd (no_zero w (pad k (significant v)) (sym (same_length 0 0 (pad (suc k) (significant v)) (significant w) (pad_length (suc k) (significant v) ∙ l) (pad_digits (suc k) (significant v) (significant_digits v a)) (significant_digits w b) (pad_value (suc k) (significant v) ∙ significant_value v ∙ e ∙ sym (significant_value w))).1))

pub same_value : (v w : List ℕ) → AreDigits v → AreDigits w → digits_value 10 v ≡ digits_value 10 w → significant v ≡ significant w
same_value v w a b e = elim (cases_lt (length (significant v)) (length (significant w))) [
  | inl l ↦ shorter v w a b e (length (significant w) - length (significant v)) (omega (arith, l))
  | inr l ↦ sym (shorter w v b a (sym e) (length (significant v) - length (significant w)) (omega (arith, l)))
]

pub value_same : (v w : List ℕ) → significant v ≡ significant w → digits_value 10 v ≡ digits_value 10 w
value_same v w e = sym (significant_value v) ∙ ap (digits_value_after 10 0) e ∙ significant_value w

one_test : (v w : Bool) → (v ≡ true → w ≡ true) → (w ≡ true → v ≡ true) → v ≡ w
one_test true true f g = refl
one_test true false f g = sym (f refl)
one_test false true f g = g refl
one_test false false f g = refl

same_number : (a b : ℕ) → (a == b) ≡ true → a ≡ b
same_number a b h = grind (arith, nat_tests)

pub digits_of_number : (v : List ℕ) → IsTrue (is_number v) → AreDigits v
digits_of_number v n = (both (not (length v == 0)) (list_all is_ascii_digit v) n).1

-- the test of the two texts is the test of the two numbers
pub values_tested : (v w : List ℕ) → IsTrue (is_number v) → IsTrue (is_number w) → bytes_eq (significant v) (significant w) ≡ (digits_value 10 v == digits_value 10 w)
values_tested v w p q = one_test _ _
    (λ t. eq-eqb (digits_value 10 v) (digits_value 10 w) (value_same v w ((bytes_decides (significant v) (significant w)).0 t)))
    (λ t. (bytes_decides (significant v) (significant w)).1 (same_value v w (digits_of_number v p) (digits_of_number w q) (same_number (digits_value 10 v) (digits_value 10 w) t)))
