-- Where the scan finds no fault, each number token of a JSON text is whole: the scan and json's lexer side by side.
use Rattle.std.proofs.Common.{◌≡◌, ◌∙◌, ap, sym, subst, refl, ℕ, suc, ◌+◌, ◌-◌, Bool, true, false, cond, ◌&&◌, ◌||◌, ◌==◌, nat_eq, List, [], ◌∷◌, ◌++◌, length, take, drop, Option, Some, None, option_and_then, ◌⊎◌, inl, inr, append_assoc, length-append, take-append-drop, arith}
use Rattle.std.specs.Prelude.{⊤, if◌then◌else◌}
use Rattle.std.proofs.Math.Seq.{take-append_seam}
use Rattle.std.proofs.lemmas.Bool.{eqb-true, and_parts, or_cases}
use Rattle.std.proofs.lemmas.List.Folds.{list_all-append}
use Rattle.std.specs.Cmp.Lexicographic.{same_text}
use Rattle.std.specs.List.{prefix_len, list_all, starts_with}
use Rattle.std.specs.Char.{is_ascii_digit}
use Rattle.json.specs.Token.{Token, begin_object, end_object, begin_array, end_array, key, string, number, boolean, null, bad}
use Rattle.json.specs.Text.{content, plain}
use Rattle.json.specs.Word.{is_operator, is_space, head, ends_word, after_digits, after_minus, after_sign, after_whole, after_fraction, after_exponent, after_number, number_before, literal, word}
use Rattle.json.specs.Lex.{Lexeme, token, comma, colon, Class, quote, backslash, operator, space, other, class, operator_lexeme, string_token, Mode, between, in_word, in_string, in_escape, lex_byte, lex}
use Rattle.json.proofs.Printed.Numbers.{number_alone}
use Rattle.wf_doc.specs.declared.scan.DocFault.{DocFault}
use Rattle.wf_doc.specs.declared.scan.Place.{Place}
use Rattle.wf_doc.specs.declared.scan.Place.TheVariants.{Outside, InNumber, InString, Escaped}
use Rattle.wf_doc.specs.Scan.{is_number_byte, is_fraction_sign, begins_number, token_at, token_fault, next, begins_token, or_later, first_fault}
use Rattle.wf_doc.proofs.WholeNumbers.{HasWhole, whole_number}

-- ---- a number of the lexer is the token of the scan

-- the text is number bytes, and then the rest
abbrev IsRun : List ℕ → List ℕ → Type 0
IsRun t r = (a : List ℕ) × (t ≡ a ++ r) × (list_all is_number_byte a ≡ true)

abbrev Leaves : List ℕ → Option (List ℕ) → Type 0
Leaves t None = ⊤
Leaves t (Some r) = IsRun t r

run_more : (t u r : List ℕ) → IsRun t u → IsRun u r → IsRun t r
run_more t u r a b = (a.0 ++ b.0, a.1 ∙ ap (λ x. a.0 ++ x) b.1 ∙ sym (append_assoc a.0 b.0 r), list_all-append is_number_byte a.0 b.0 ∙ ap (λ v. v && list_all is_number_byte b.0) a.2 ∙ b.2)

further : (t u : List ℕ) (o : Option (List ℕ)) → IsRun t u → Leaves u o → Leaves t o
further t u None a h = tt
further t u (Some r) a h = run_more t u r a h

either : (t : List ℕ) (b : Bool) (x y : Option (List ℕ)) → (b ≡ true → Leaves t x) → Leaves t y → Leaves t (cond b x y)
either t true x y p q = p refl
either t false x y p q = q

chain : (t : List ℕ) (f : List ℕ → Option (List ℕ)) → ((u : List ℕ) → Leaves u (f u)) → (o : Option (List ℕ)) → Leaves t o → Leaves t (option_and_then f o)
chain t f g None h = tt
chain t f g (Some r) h = further t r (f r) h (g r)

-- one number byte, where the text begins with it
one_byte : (c : ℕ) (t : List ℕ) → is_number_byte c ≡ true → (32 == c) ≡ false → (head t == c) ≡ true → IsRun t (drop 1 t)
one_byte c [] n blank e = absurd (cc)
one_byte c (x ∷ xs) n blank e = (x ∷ [], refl, ap (λ y. is_number_byte y && true) (eqb-true x c e) ∙ ap (λ b. b && true) n)

none_read : (t : List ℕ) → IsRun t t
none_read t = ([], refl, refl)

digit_run : (t : List ℕ) → IsRun t (drop (prefix_len is_ascii_digit t) t)
digit_run [] = none_read []
digit_run (x ∷ xs) = at_digit (is_ascii_digit x) refl (digit_run xs)
  where
    at_digit : (b : Bool) → is_ascii_digit x ≡ b → IsRun xs (drop (prefix_len is_ascii_digit xs) xs) → IsRun (x ∷ xs) (drop (cond b (1 + prefix_len is_ascii_digit xs) 0) (x ∷ xs))
    at_digit true is r =
        let one : 1 + prefix_len is_ascii_digit xs ≡ suc (prefix_len is_ascii_digit xs) = omega arith in
        subst (λ n. IsRun (x ∷ xs) (drop n (x ∷ xs))) (sym one) (x ∷ r.0, ap (λ t. x ∷ t) r.1, ap (λ b. (b || (x == 43) || (x == 45) || is_fraction_sign x) && list_all is_number_byte r.0) is ∙ r.2)
    at_digit false is r = none_read (x ∷ xs)

digits_leave : (t : List ℕ) → Leaves t (after_digits t)
digits_leave t = either t (prefix_len is_ascii_digit t == 0) None _ (λ _. tt) (digit_run t)

minus_run : (t : List ℕ) (b : Bool) → (head t == 45) ≡ b → IsRun t (cond b (drop 1 t) t)
minus_run t true e = one_byte 45 t refl refl e
minus_run t false e = none_read t

sign_run : (t : List ℕ) (b : Bool) → ((head t == 45) || (head t == 43)) ≡ b → IsRun t (cond b (drop 1 t) t)
sign_run t true e = by_sign (or_cases _ _ e)
  where
    by_sign : ((head t == 45) ≡ true) ⊎ ((head t == 43) ≡ true) → IsRun t (drop 1 t)
    by_sign (inl e) = one_byte 45 t refl refl e
    by_sign (inr e) = one_byte 43 t refl refl e
sign_run t false e = none_read t

whole_leaves : (t : List ℕ) → Leaves t (after_whole t)
whole_leaves t = either t (head t == 48) (Some (drop 1 t)) _ (one_byte 48 t refl refl) (digits_leave t)

fraction_leaves : (t : List ℕ) → Leaves t (after_fraction t)
fraction_leaves t = either t (head t == 46) _ (Some t) (λ e. further t (drop 1 t) _ (one_byte 46 t refl refl e) (digits_leave (drop 1 t))) (none_read t)

exponent_run : (t : List ℕ) → ((head t == 101) ≡ true) ⊎ ((head t == 69) ≡ true) → IsRun t (drop 1 t)
exponent_run t (inl e) = one_byte 101 t refl refl e
exponent_run t (inr e) = one_byte 69 t refl refl e

exponent_leaves : (t : List ℕ) → Leaves t (after_exponent t)
exponent_leaves t =
    let u : List ℕ = drop 1 t in
    either t ((head t == 101) || (head t == 69)) _ (Some t)
    (λ e. further t u _ (exponent_run t (or_cases _ _ e)) (further u (after_sign u) _ (sign_run u _ refl) (digits_leave (after_sign u)))) (none_read t)

number_leaves : (t : List ℕ) → Leaves t (after_number t)
unfolding after_number
number_leaves t =
    let u : List ℕ = after_minus t in
    chain t after_exponent exponent_leaves _ (chain t after_fraction fraction_leaves _ (further t u _ (minus_run t _ refl) (whole_leaves u)))

-- ---- what ends a word is no part of a number

operator_cases : (P : ℕ → Type 0) → P 123 → P 125 → P 91 → P 93 → P 58 → P 44 → (x : ℕ) → is_operator x ≡ true → P x
operator_cases P a b c d e f x h = by5 (or_cases _ _ h)
  where
    at : (n : ℕ) → P n → (x == n) ≡ true → P x
    at n p e = subst P (sym (eqb-true x n e)) p

    by1 : ((x == 123) ≡ true) ⊎ ((x == 125) ≡ true) → P x
    by1 (inl e) = at 123 a e
    by1 (inr e) = at 125 b e

    by2 : (((x == 123) || (x == 125)) ≡ true) ⊎ ((x == 91) ≡ true) → P x
    by2 (inl e) = by1 (or_cases _ _ e)
    by2 (inr e) = at 91 c e

    by3 : (((x == 123) || (x == 125) || (x == 91)) ≡ true) ⊎ ((x == 93) ≡ true) → P x
    by3 (inl e) = by2 (or_cases _ _ e)
    by3 (inr e) = at 93 d e

    by4 : (((x == 123) || (x == 125) || (x == 91) || (x == 93)) ≡ true) ⊎ ((x == 58) ≡ true) → P x
    by4 (inl e) = by3 (or_cases _ _ e)
    by4 (inr r) = at 58 e r

    by5 : (((x == 123) || (x == 125) || (x == 91) || (x == 93) || (x == 58)) ≡ true) ⊎ ((x == 44) ≡ true) → P x
    by5 (inl e) = by4 (or_cases _ _ e)
    by5 (inr e) = at 44 f e

space_cases : (P : ℕ → Type 0) → P 32 → P 9 → P 10 → P 13 → (x : ℕ) → is_space x ≡ true → P x
space_cases P a b c d x h = by3 (or_cases _ _ h)
  where
    at : (n : ℕ) → P n → (x == n) ≡ true → P x
    at n p e = subst P (sym (eqb-true x n e)) p

    by1 : ((x == 32) ≡ true) ⊎ ((x == 9) ≡ true) → P x
    by1 (inl e) = at 32 a e
    by1 (inr e) = at 9 b e

    by2 : (((x == 32) || (x == 9)) ≡ true) ⊎ ((x == 10) ≡ true) → P x
    by2 (inl e) = by1 (or_cases _ _ e)
    by2 (inr e) = at 10 c e

    by3 : (((x == 32) || (x == 9) || (x == 10)) ≡ true) ⊎ ((x == 13) ≡ true) → P x
    by3 (inl e) = by2 (or_cases _ _ e)
    by3 (inr e) = at 13 d e

end_cases : (P : ℕ → Type 0) → P 123 → P 125 → P 91 → P 93 → P 58 → P 44 → P 32 → P 9 → P 10 → P 13 → (x : ℕ) → (is_operator x || is_space x) ≡ true → P x
end_cases P a b c d e f g h i j x is = by (or_cases _ _ is)
  where
    by : (is_operator x ≡ true) ⊎ (is_space x ≡ true) → P x
    by (inl o) = operator_cases P a b c d e f x o
    by (inr s) = space_cases P g h i j x s

no_number : (r : List ℕ) → ends_word r ≡ true → prefix_len is_number_byte r ≡ 0
no_number [] h = refl
no_number (x ∷ xs) h = end_cases (λ y. prefix_len is_number_byte (y ∷ xs) ≡ 0) refl refl refl refl refl refl refl refl refl refl x h

run_length : (a r : List ℕ) → list_all is_number_byte a ≡ true → prefix_len is_number_byte r ≡ 0 → prefix_len is_number_byte (a ++ r) ≡ length a
run_length [] r all none = none
run_length (x ∷ xs) r all none =
    let parts = and_parts (is_number_byte x) (list_all is_number_byte xs) all in
    ap (λ b. cond b (1 + prefix_len is_number_byte (xs ++ r)) 0) parts.0 ∙ omega (arith, run_length xs r parts.1 none)

token_is : (a r : List ℕ) → list_all is_number_byte a ≡ true → ends_word r ≡ true → token_at (a ++ r) ≡ a
token_is a r all ended = ap (λ n. take n (a ++ r)) (run_length a r all (no_number r ended)) ∙ take-append_seam a r

front_is : (t a r : List ℕ) → t ≡ a ++ r → take (length t - length r) t ≡ a
front_is t a r e =
    let n : length t - length r ≡ length a = omega (arith, ap length e, length-append a r) in
    ap (λ k. take k t) n ∙ ap (take (length a)) e ∙ take-append_seam a r

-- a number begins with a digit or a minus
begin_at : (y : ℕ) (ys : List ℕ) (m d : Bool) → (y == 45) ≡ m → is_ascii_digit y ≡ d → after_number (y ∷ ys) ≡ Some [] → (d || m) ≡ true
unfolding after_number
begin_at y ys m true me de e = refl
begin_at y ys true false me de e = refl
begin_at y ys false false me de e =
    let plain : option_and_then after_exponent (option_and_then after_fraction (after_whole (y ∷ ys))) ≡ Some [] =
    ap (λ b. option_and_then after_exponent (option_and_then after_fraction (after_whole (cond b ys (y ∷ ys))))) (sym me) ∙ e in
    absurd (no_whole (y == 48) refl plain)
  where
    no_zero : (y == 48) ≡ true → ⊥
    no_zero z = let digit : false ≡ true = sym de ∙ ap is_ascii_digit (eqb-true y 48 z) in absurd (cc)

    no_whole : (z : Bool) → (y == 48) ≡ z → option_and_then after_exponent (option_and_then after_fraction (cond z (Some ys) (after_digits (y ∷ ys)))) ≡ Some [] → ⊥
    no_whole true z e = no_zero z
    no_whole false z e =
        let none : option_and_then after_exponent (option_and_then after_fraction (after_digits (y ∷ ys))) ≡ None =
        ap (λ b. option_and_then after_exponent (option_and_then after_fraction (cond (cond b (1 + prefix_len is_ascii_digit ys) 0 == 0) None (Some (drop (cond b (1 + prefix_len is_ascii_digit ys) 0) (y ∷ ys)))))) de in
        absurd (cc)

number_begins : (a : List ℕ) → after_number a ≡ Some [] → (y : ℕ) × (ys : List ℕ) × (a ≡ y ∷ ys) × (begins_number y ≡ true)
unfolding after_number
number_begins [] e = absurd (cc)
number_begins (y ∷ ys) e = (y, ys, refl, begin_at y ys (y == 45) (is_ascii_digit y) refl refl e)

-- ---- the bytes of a word up to its end have no quote

abbrev CleanByte : Class → Type 0 → Type 0
CleanByte quote P = ⊥
CleanByte backslash P = ⊥
CleanByte operator P = ⊤
CleanByte space P = ⊤
CleanByte other P = P

abbrev IsClean : List ℕ → Type 0
IsClean [] = ⊤
IsClean (x ∷ xs) = CleanByte (class x) (IsClean xs)

clean_end : (r : List ℕ) → ends_word r ≡ true → IsClean r
clean_end [] h = tt
clean_end (x ∷ xs) h = end_cases (λ y. CleanByte (class y) (IsClean xs)) tt tt tt tt tt tt tt tt tt tt x h

clean_byte : (b : Bool) (x : ℕ) (P : Type 0) → is_number_byte x ≡ b → b ≡ true → P → CleanByte (class x) P
clean_byte b x P is h p = clean_at (x == 34) (x == 92) (is_operator x) (is_space x) refl refl refl refl
  where
    number : is_number_byte x ≡ true
    number = is ∙ h

    clash : (n : ℕ) → is_number_byte n ≡ false → (x == n) ≡ true → ⊥
    clash n none e = let both : true ≡ false = sym number ∙ ap is_number_byte (eqb-true x n e) ∙ none in absurd (cc)

    clean_at : (q s o w : Bool) → (x == 34) ≡ q → (x == 92) ≡ s → is_operator x ≡ o → is_space x ≡ w → CleanByte (cond q quote (cond s backslash (cond o operator (cond w space other)))) P
    clean_at true s o w qe se oe we = absurd (clash 34 refl qe)
    clean_at false true o w qe se oe we = absurd (clash 92 refl se)
    clean_at false false true w qe se oe we = tt
    clean_at false false false true qe se oe we = tt
    clean_at false false false false qe se oe we = p

clean_run : (a r : List ℕ) → list_all is_number_byte a ≡ true → IsClean r → IsClean (a ++ r)
clean_run [] r all h = h
clean_run (x ∷ xs) r all h =
    let parts = and_parts (is_number_byte x) (list_all is_number_byte xs) all in
    clean_byte (is_number_byte x) x (IsClean (xs ++ r)) refl parts.0 (clean_run xs r parts.1 h)

-- ---- what a word tells

-- a word that isn't bad is clean, and a number is the token of the scan
abbrev Tells : Token → ℕ → List ℕ → Type 0
Tells begin_object x xs = IsClean (x ∷ xs)
Tells end_object x xs = IsClean (x ∷ xs)
Tells begin_array x xs = IsClean (x ∷ xs)
Tells end_array x xs = IsClean (x ∷ xs)
Tells (key s) x xs = IsClean (x ∷ xs)
Tells (string s) x xs = IsClean (x ∷ xs)
Tells (number s) x xs = IsClean (x ∷ xs) × (after_number s ≡ Some []) × (token_at (x ∷ xs) ≡ s) × (begins_number x ≡ true)
Tells (boolean b) x xs = IsClean (x ∷ xs)
Tells null x xs = IsClean (x ∷ xs)
Tells bad x xs = ⊤

first_is : (x y : ℕ) (xs ys : List ℕ) → x ∷ xs ≡ y ∷ ys → y ≡ x
first_is x y xs ys e = cc

number_tells : (x : ℕ) (xs : List ℕ) (o : Option (List ℕ)) → after_number (x ∷ xs) ≡ o → Leaves (x ∷ xs) o → Tells (number_before (x ∷ xs) o) x xs
number_tells x xs None e h = tt
number_tells x xs (Some r) e h = ended_tells (ends_word r) refl
  where
    run : list_all is_number_byte h.0 ≡ true
    run = h.2

    alone : ends_word r ≡ true → after_number h.0 ≡ Some []
    alone ended = number_alone h.0 r ended (ap after_number (sym h.1) ∙ e)

    begins : ends_word r ≡ true → begins_number x ≡ true
    begins ended =
        let b = number_begins h.0 (alone ended) in
        ap begins_number (sym (first_is x b.0 xs (b.1 ++ r) (h.1 ∙ ap (λ a. a ++ r) b.2))) ∙ b.3

    ended_tells : (b : Bool) → ends_word r ≡ b → Tells (cond b (number (take (length (x ∷ xs) - length r) (x ∷ xs))) bad) x xs
    ended_tells true ended =
        let front : take (length (x ∷ xs) - length r) (x ∷ xs) ≡ h.0 = front_is (x ∷ xs) h.0 r h.1 in (
          subst IsClean (sym h.1) (clean_run h.0 r run (clean_end r ended)),
          ap after_number front ∙ alone ended,
          ap token_at h.1 ∙ token_is h.0 r run ended ∙ sym front,
          begins ended,
        )
    ended_tells false ended = tt

literal_tells : (name : List ℕ) (t : Token) (x : ℕ) (xs : List ℕ) → ((r : List ℕ) → IsClean r → IsClean (name ++ r)) → (IsClean (x ∷ xs) → Tells t x xs) → Tells (literal name t (x ∷ xs)) x xs
literal_tells name t x xs through gives = by (starts_with nat_eq (x ∷ xs) name && ends_word (drop (length name) (x ∷ xs))) refl
  where
    by : (b : Bool) → (starts_with nat_eq (x ∷ xs) name && ends_word (drop (length name) (x ∷ xs))) ≡ b → Tells (cond b t bad) x xs
    by true e =
        let parts = and_parts _ _ e in
        let same : name ≡ take (length name) (x ∷ xs) = same_text name (take (length name) (x ∷ xs)) (sym parts.0) in
        let whole : name ++ drop (length name) (x ∷ xs) ≡ x ∷ xs = ap (λ n. n ++ drop (length name) (x ∷ xs)) same ∙ take-append-drop (length name) (x ∷ xs) in
        gives (subst IsClean whole (through (drop (length name) (x ∷ xs)) (clean_end (drop (length name) (x ∷ xs)) parts.1)))
    by false e = tt

one_of : (b : Bool) (s t : Token) (x : ℕ) (xs : List ℕ) → Tells s x xs → Tells t x xs → Tells (cond b s t) x xs
one_of true s t x xs p q = p
one_of false s t x xs p q = q

word_tells : (x : ℕ) (xs : List ℕ) → Tells (word (x ∷ xs)) x xs
unfolding word
word_tells x xs =
    one_of (x == 116) _ _ x xs (literal_tells (116 ∷ 114 ∷ 117 ∷ 101 ∷ []) (boolean true) x xs (λ r c. c) (λ c. c))
    (one_of (x == 102) _ _ x xs (literal_tells (102 ∷ 97 ∷ 108 ∷ 115 ∷ 101 ∷ []) (boolean false) x xs (λ r c. c) (λ c. c))
    (one_of (x == 110) _ _ x xs (literal_tells (110 ∷ 117 ∷ 108 ∷ 108 ∷ []) null x xs (λ r c. c) (λ c. c)) (number_tells x xs (after_number (x ∷ xs)) refl (number_leaves (x ∷ xs)))))

-- ---- the lexemes up to a bad one

abbrev pub After : Token → Type 0 → Type 0
After begin_object P = P
After end_object P = P
After begin_array P = P
After end_array P = P
After (key s) P = P
After (string s) P = P
After (number s) P = HasWhole s × P
After (boolean b) P = P
After null P = P
After bad P = ⊤

abbrev pub LexemesFit : List Lexeme → Type 0
LexemesFit [] = ⊤
LexemesFit (token t ∷ ls) = After t (LexemesFit ls)
LexemesFit (comma ∷ ls) = LexemesFit ls
LexemesFit (colon ∷ ls) = LexemesFit ls

mark : (b : Bool) (l m : Lexeme) (ls : List Lexeme) → LexemesFit (l ∷ ls) → LexemesFit (m ∷ ls) → LexemesFit (cond b l m ∷ ls)
mark true l m ls p q = p
mark false l m ls p q = q

operator_fits : (x : ℕ) (ls : List Lexeme) → LexemesFit ls → LexemesFit (operator_lexeme x ∷ ls)
operator_fits x ls h =
    mark (x == 123) (token begin_object) _ ls h (mark (x == 125) (token end_object) _ ls h (mark (x == 91) (token begin_array) _ ls h (mark (x == 93) (token end_array) _ ls h (mark (x == 44) comma colon ls h h))))

string_fits : (o : Option (List ℕ)) (P : Type 0) → P → After (string_token o) P
string_fits None P p = tt
string_fits (Some s) P p = p

-- where the scan and the lexer stand together, P being that the word at hand is clean
abbrev AlignedAt : Place → Mode → Type 0 → Type 0
AlignedAt Outside between P = ⊤
AlignedAt Outside in_word P = P
AlignedAt Outside in_string P = ⊥
AlignedAt Outside in_escape P = ⊥
AlignedAt InNumber between P = ⊥
AlignedAt InNumber in_word P = P
AlignedAt InNumber in_string P = ⊥
AlignedAt InNumber in_escape P = ⊥
AlignedAt InString between P = ⊥
AlignedAt InString in_word P = ⊥
AlignedAt InString in_string P = ⊤
AlignedAt InString in_escape P = ⊥
AlignedAt Escaped between P = ⊥
AlignedAt Escaped in_word P = ⊥
AlignedAt Escaped in_string P = ⊥
AlignedAt Escaped in_escape P = ⊤

outside_word : (q b : Bool) (P : Type 0) → q ≡ false → P → AlignedAt (if q then InString else (if b then InNumber else Outside)) in_word P
outside_word true b P e p = absurd (cc)
outside_word false true P e p = p
outside_word false false P e p = p

number_word : (b q : Bool) (P : Type 0) → q ≡ false → P → AlignedAt (if b then InNumber else (if q then InString else Outside)) in_word P
number_word true q P e p = p
number_word false true P e p = absurd (cc)
number_word false false P e p = p

in_text : (q s : Bool) (P : Type 0) → q ≡ false → s ≡ false → AlignedAt (if q then Outside else (if s then Escaped else InString)) in_string P
in_text true s P e f = absurd (cc)
in_text false true P e f = absurd (cc)
in_text false false P e f = tt

other_clean : (x : ℕ) (P : Type 0) → (x == 34) ≡ false → (x == 92) ≡ false → is_operator x ≡ false → is_space x ≡ false → CleanByte (class x) P → P
other_clean x P qe se oe we h = let is : class x ≡ other = rw (qe, se, oe, we) refl in subst (λ c. CleanByte c P) is h

after_word : (t : Token) (x : ℕ) (xs : List ℕ) (P : Type 0) → Tells t x xs → (begins_number x ≡ true → token_fault (token_at (x ∷ xs)) ≡ None) → (IsClean (x ∷ xs) → P) → After t P
after_word begin_object x xs P h f k = k h
after_word end_object x xs P h f k = k h
after_word begin_array x xs P h f k = k h
after_word end_array x xs P h f k = k h
after_word (key s) x xs P h f k = k h
after_word (string s) x xs P h f k = k h
after_word (number s) x xs P h f k = (whole_number s h.1 (ap token_fault (sym h.2) ∙ f h.3), k h.0)
after_word (boolean b) x xs P h f k = k h
after_word null x xs P h f k = k h
after_word bad x xs P h f k = tt

module _ (x : ℕ) (xs : List ℕ) where
  abbrev P : Type 0
  P = IsClean xs

  abbrev Later : Place → Type 0
  Later p = (n : Mode) → AlignedAt (next p x) n P → LexemesFit (lex n xs)

  step : (p : Place) (m : Mode) (q s o w : Bool) → (x == 34) ≡ q → (x == 92) ≡ s → is_operator x ≡ o → is_space x ≡ w
      → AlignedAt p m (CleanByte (cond q quote (cond s backslash (cond o operator (cond w space other)))) P)
      → (begins_token p x ≡ true → token_fault (token_at (x ∷ xs)) ≡ None) → Later p
      → LexemesFit (lex_byte m (cond q quote (cond s backslash (cond o operator (cond w space other)))) x xs (λ n. lex n xs))
  step Outside between true s o w qe se oe we a f k =
      string_fits (content plain xs) _ (k in_string (subst (λ b. AlignedAt (if b then InString else (if begins_number x then InNumber else Outside)) in_string P) (sym qe) tt))
  step Outside between false true o w qe se oe we a f k = tt
  step Outside between false false true w qe se oe we a f k = operator_fits x _ (k between (operator_cases (λ y. AlignedAt (next Outside y) between P) tt tt tt tt tt tt x oe))
  step Outside between false false false true qe se oe we a f k = k between (space_cases (λ y. AlignedAt (next Outside y) between P) tt tt tt tt x we)
  step Outside between false false false false qe se oe we a f k =
      after_word (word (x ∷ xs)) x xs _ (word_tells x xs) f (λ clean. k in_word (outside_word (x == 34) (begins_number x) P qe (other_clean x P qe se oe we clean)))
  step Outside in_word true s o w qe se oe we a f k = absurd a
  step Outside in_word false true o w qe se oe we a f k = absurd a
  step Outside in_word false false true w qe se oe we a f k = operator_fits x _ (k between (operator_cases (λ y. AlignedAt (next Outside y) between P) tt tt tt tt tt tt x oe))
  step Outside in_word false false false true qe se oe we a f k = k between (space_cases (λ y. AlignedAt (next Outside y) between P) tt tt tt tt x we)
  step Outside in_word false false false false qe se oe we a f k = k in_word (outside_word (x == 34) (begins_number x) P qe a)
  step Outside in_string q s o w qe se oe we a f k = absurd a
  step Outside in_escape q s o w qe se oe we a f k = absurd a
  step InNumber between q s o w qe se oe we a f k = absurd a
  step InNumber in_word true s o w qe se oe we a f k = absurd a
  step InNumber in_word false true o w qe se oe we a f k = absurd a
  step InNumber in_word false false true w qe se oe we a f k = operator_fits x _ (k between (operator_cases (λ y. AlignedAt (next InNumber y) between P) tt tt tt tt tt tt x oe))
  step InNumber in_word false false false true qe se oe we a f k = k between (space_cases (λ y. AlignedAt (next InNumber y) between P) tt tt tt tt x we)
  step InNumber in_word false false false false qe se oe we a f k = k in_word (number_word (is_number_byte x) (x == 34) P qe a)
  step InNumber in_string q s o w qe se oe we a f k = absurd a
  step InNumber in_escape q s o w qe se oe we a f k = absurd a
  step InString between q s o w qe se oe we a f k = absurd a
  step InString in_word q s o w qe se oe we a f k = absurd a
  step InString in_string true s o w qe se oe we a f k = k between (subst (λ b. AlignedAt (if b then Outside else (if x == 92 then Escaped else InString)) between P) (sym qe) tt)
  step InString in_string false true o w qe se oe we a f k =
      k in_escape (subst (λ b. AlignedAt (if b then Outside else (if x == 92 then Escaped else InString)) in_escape P) (sym qe) (subst (λ b. AlignedAt (if b then Escaped else InString) in_escape P) (sym se) tt))
  step InString in_string false false true w qe se oe we a f k = k in_string (in_text (x == 34) (x == 92) P qe se)
  step InString in_string false false false true qe se oe we a f k = k in_string (in_text (x == 34) (x == 92) P qe se)
  step InString in_string false false false false qe se oe we a f k = k in_string (in_text (x == 34) (x == 92) P qe se)
  step InString in_escape q s o w qe se oe we a f k = absurd a
  step Escaped between q s o w qe se oe we a f k = absurd a
  step Escaped in_word q s o w qe se oe we a f k = absurd a
  step Escaped in_string q s o w qe se oe we a f k = absurd a
  step Escaped in_escape q s o w qe se oe we a f k = k in_string tt

no_fault : (o later : Option DocFault) → or_later o later ≡ None → (o ≡ None) × (later ≡ None)
no_fault None later h = (refl, h)
no_fault (Some f) later h = absurd (cc)

pub LexemesFit-lex : (xs : List ℕ) (p : Place) (m : Mode) → AlignedAt p m (IsClean xs) → first_fault p xs ≡ None → LexemesFit (lex m xs)
unfolding lex
LexemesFit-lex [] p m a h = tt
LexemesFit-lex (x ∷ xs) p m a h =
    let none = no_fault (if begins_token p x then token_fault (token_at (x ∷ xs)) else None) (first_fault (next p x) xs) h in
    step x xs p m (x == 34) (x == 92) (is_operator x) (is_space x) refl refl refl refl a
    (λ begins. subst (λ b. (if b then token_fault (token_at (x ∷ xs)) else None) ≡ None) begins none.0) (λ n aligned. LexemesFit-lex xs (next p x) n aligned none.1)
