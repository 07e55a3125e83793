-- Words, numbers and keys of conditions.
use Rattle.std.proofs.Common.{◌≡◌, refl, ℕ, suc, ◌+◌, Bool, true, false, List, [], ◌∷◌, length, take, drop, Option, None, Some, arith, nat_eq, nat_lt}
use Rattle.std.specs.List.{starts_with, prefix_len, list_all}
use Rattle.std.specs.Char.{is_ascii_digit}
use Rattle.std.proofs.lemmas.Bool.Decides.{nat_tests}
use Rattle.wf_defs.specs.Condition.{after_blanks, longer, or_longer}

-- a word that begins the text is found there
pub after_blanks_here : (w t : List ℕ) → starts_with nat_eq t w ≡ true → after_blanks w t ≡ Some (drop (length w) t)
after_blanks_here w [] here = rw here refl
after_blanks_here w (b ∷ bs) here = rw here refl

digit_more : (b : ℕ) (bs : List ℕ) (v : Bool) → is_ascii_digit b ≡ v → list_all is_ascii_digit (take (prefix_len is_ascii_digit bs) bs) ≡ true
    → list_all is_ascii_digit (take (prefix_len is_ascii_digit (b ∷ bs)) (b ∷ bs)) ≡ true
digit_more b bs true e more =
    let next : 1 + prefix_len is_ascii_digit bs ≡ suc (prefix_len is_ascii_digit bs) = omega arith in
    rw (e, next, e, more) refl
digit_more b bs false e more = rw e refl

-- the run of digits holds digits alone
pub all_digits : (t : List ℕ) → list_all is_ascii_digit (take (prefix_len is_ascii_digit t) t) ≡ true
all_digits [] = refl
all_digits (b ∷ bs) = digit_more b bs (is_ascii_digit b) refl (all_digits bs)

-- ---- the longest key

-- the longest of those found so far and of those to come
abbrev pub merged : Option (List ℕ) → Option (List ℕ) → Option (List ℕ)
merged None more = more
merged (Some k) more = longer k more

three : (f k o : List ℕ) (a b c : Bool) → nat_lt (length k) (length o) ≡ a → nat_lt (length f) (length k) ≡ b → nat_lt (length f) (length o) ≡ c → longer f (longer k (Some o)) ≡ merged (longer f (Some k)) (Some o)
three f k o true true true ea eb ec = rw (ea, eb, ea, ec) refl
three f k o true true false ea eb ec = let no : ⊥ = grind (arith, nat_tests) in absurd no
three f k o true false c ea eb ec = rw (ea, eb) refl
three f k o false true c ea eb ec = rw (ea, eb, ea) refl
three f k o false false true ea eb ec = let no : ⊥ = grind (arith, nat_tests) in absurd no
three f k o false false false ea eb ec = rw (ea, eb, ec) refl

two : (f k : List ℕ) (b : Bool) → nat_lt (length f) (length k) ≡ b → longer f (longer k None) ≡ merged (longer f (Some k)) None
two f k true e = rw e refl
two f k false e = rw e refl

-- one key more
pub merged_more : (found : Option (List ℕ)) (k : List ℕ) (more : Option (List ℕ)) → merged found (longer k more) ≡ merged (or_longer found k) more
merged_more None k more = refl
merged_more (Some f) k None = two f k _ refl
merged_more (Some f) k (Some o) = three f k o _ _ _ refl refl refl
