-- The condition of a DO_WHILE: `$.REF['iteration'] < N`, or the same inside `if ( .. ) { true; } else { false; }`.
-- Blanks may stand between two of its signs and words, and nowhere else.
use Rattle.std.specs.Prelude.{ℕ, zero, suc, ℤ, pos, negsuc, ◌≡◌, ◌≤◌, ◌^◌, ◌&&◌, ◌||◌, ◌==◌, nat_eq, nat_le, nat_lt, not, Bool, true, false, if◌then◌else◌, List, [], ◌∷◌, length, take, drop, slice_index, filter, codes, Option, None, Some, is_some, option_map, option_and_then, unwrap_or}
use Rattle.std.specs.List.{starts_with, prefix_len}
use Rattle.std.specs.Option.{option_map_or, option_or}
use Rattle.std.specs.Char.{is_ascii_digit}
use Rattle.std.specs.Str.Parse.{digits_value}
use Rattle.wf_machine.specs.Text.{same_text}

-- ---- words

-- what follows the word, where the text begins with it
abbrev pub after_word : List ℕ → List ℕ → Option (List ℕ)
after_word w t = if starts_with nat_eq t w then Some (drop (length w) t) else None

-- what follows the word, before which blanks may stand
abbrev pub after_blanks : List ℕ → List ℕ → Option (List ℕ)
after_blanks w [] = after_word w []
after_blanks w (b ∷ bs) =
    if starts_with nat_eq (b ∷ bs) w then Some (drop (length w) (b ∷ bs))
    else if b == 32 then after_blanks w bs
    else None

-- what follows these words, one after another
abbrev pub after_words : List (List ℕ) → List ℕ → Option (List ℕ)
after_words [] t = Some t
after_words (w ∷ ws) t = option_and_then (after_words ws) (after_blanks w t)

-- what follows the word, or the text itself where the word isn't there
abbrev pub after_optional : List ℕ → List ℕ → List ℕ
after_optional w t = unwrap_or (after_blanks w t) t

-- the text without the blanks at its front
abbrev pub skip_blanks : List ℕ → List ℕ
skip_blanks [] = []
skip_blanks (b ∷ bs) = if b == 32 then skip_blanks bs else b ∷ bs

abbrev pub is_blank : ℕ → Bool
is_blank b = b == 32

-- the blanks at the front
abbrev pub blank_count : List ℕ → ℕ
blank_count t = prefix_len is_blank t

-- ---- around the comparison

-- the condition begins with `if`
abbrev pub is_bracketed : List ℕ → Bool
is_bracketed t = starts_with nat_eq t (codes "if")

-- `{`, the word, `;` or not, and `}`
abbrev pub after_braces : List ℕ → List ℕ → Option (List ℕ)
after_braces word t =
    option_and_then (λ rest. after_blanks (codes "}") (after_optional (codes ";") rest)) (after_words (codes "{" ∷ word ∷ []) t)

abbrev pub after_else : List ℕ → Option (List ℕ)
after_else t = option_and_then (after_braces (codes "false")) (after_blanks (codes "else") t)

-- what follows `{ true; } else { false; }`
abbrev pub after_rest : List ℕ → Option (List ℕ)
after_rest t = option_and_then after_else (after_braces (codes "true") t)

abbrev pub after_closing : List ℕ → Option (List ℕ)
after_closing t = option_and_then after_rest (after_blanks (codes ")") t)

abbrev pub is_empty : List ℕ → Bool
is_empty t = length t == 0

-- that is all of the text
abbrev pub is_rest : List ℕ → Bool
is_rest t = option_map_or is_empty (after_rest t) false

-- what follows the comparison ends the condition
abbrev pub is_end : Bool → List ℕ → Bool
is_end false t = is_empty t
is_end true t = option_map_or is_empty (after_closing t) false

-- the place is not before the first, and before the end
abbrev pub is_within : ℕ → ℕ → ℕ → Bool
is_within first end p = nat_le first p && not (nat_le end p)

-- from the i-th byte on, what follows a place ends a condition in brackets exactly at the places within these
abbrev pub IsSpan : List ℕ → ℕ → ℕ → ℕ → Type 0
IsSpan t i first end = (p : ℕ) → i ≤ p → p ≤ length t → is_end true (drop p t) ≡ is_within first end p

-- what follows `if` and `(`
abbrev pub after_opening : List ℕ → Option (List ℕ)
after_opening t = option_map skip_blanks (option_and_then (after_blanks (codes "(")) (after_word (codes "if") t))

-- the condition from its comparison on
abbrev pub comparison : List ℕ → Option (List ℕ)
comparison t = if is_bracketed t then after_opening t else Some t

-- ---- the left side

abbrev pub left_words : List ℕ → List ℕ → List (List ℕ)
left_words quote reference =
    codes "." ∷ reference ∷ codes "[" ∷ quote ∷ codes "iteration" ∷ quote ∷ codes "]" ∷ codes "<" ∷ []

-- what follows the left side with these quotes
abbrev pub after_left : List ℕ → List ℕ → List ℕ → Option (List ℕ)
after_left quote reference t = option_and_then (after_words (left_words quote reference)) (after_word (codes "$") t)

-- the condition from what the iteration is compared with on: the quotes are single or double
abbrev pub right_side : List ℕ → List ℕ → Option (List ℕ)
right_side reference t =
    option_and_then (λ c. option_or (after_left (39 ∷ []) reference c) (after_left (34 ∷ []) reference c)) (comparison t)

-- ---- a number on the right

abbrev pub is_negative : List ℕ → Bool
is_negative t = slice_index t 0 == 45

abbrev pub without_sign : List ℕ → List ℕ
without_sign t = if is_negative t then drop 1 t else t

abbrev pub minus : ℕ → ℤ
minus zero = pos 0
minus (suc n) = negsuc n

-- the number of this sign and size, where it fits 64 signed bits
abbrev pub signed : Bool → ℕ → Option ℤ
signed true size = if nat_le size (2 ^ 63) then Some (minus size) else None
signed false size = if nat_lt size (2 ^ 63) then Some (pos size) else None

abbrev pub digit_count : List ℕ → ℕ
digit_count t = prefix_len is_ascii_digit t

-- one digit at least, and then the end
abbrev pub is_number_text : Bool → List ℕ → Bool
is_number_text bracketed digits = nat_lt 0 (digit_count digits) && is_end bracketed (drop (digit_count digits) digits)

abbrev pub number_at : Bool → List ℕ → Option ℤ
number_at bracketed t =
    if is_number_text bracketed (without_sign t)
    then signed (is_negative t) (digits_value 10 (take (digit_count (without_sign t)) (without_sign t)))
    else None

-- the number that the iteration is compared with, where it is one
abbrev pub condition_number : List ℕ → List ℕ → Option ℤ
condition_number reference t =
    option_and_then (λ rest. number_at (is_bracketed t) (skip_blanks rest)) (right_side reference t)

-- ---- a parameter on the right

-- the text is the key, with blanks before it or without
abbrev pub stands_last : List ℕ → List ℕ → Bool
stands_last k [] = is_empty k
stands_last k (b ∷ bs) = same_text (b ∷ bs) k || ((b == 32) && stands_last k bs)

-- the key stands there, and then the end
abbrev pub is_key : Bool → List ℕ → List ℕ → Bool
is_key false t k = stands_last k t
is_key true t k = option_map_or (is_end true) (after_blanks k t) false

-- the longer of two, the first where they are of one length
abbrev pub longer : List ℕ → Option (List ℕ) → Option (List ℕ)
longer k None = Some k
longer k (Some other) = if nat_lt (length k) (length other) then Some other else Some k

-- the same where the first may not be there
abbrev pub or_longer : Option (List ℕ) → List ℕ → Option (List ℕ)
or_longer None k = Some k
or_longer (Some found) k = longer found (Some k)

abbrev pub longest : List (List ℕ) → Option (List ℕ)
longest [] = None
longest (k ∷ ks) = longer k (longest ks)

-- the parameter that the iteration is compared with, one of these keys, where it is one. Of several that fit, as one
-- of them ends in a blank, it is the longest
abbrev pub condition_key : List ℕ → List (List ℕ) → List ℕ → Option (List ℕ)
condition_key reference keys t =
    option_and_then (λ rest. longest (filter (is_key (is_bracketed t) rest) keys))
    (option_and_then (after_words (codes "$" ∷ codes "." ∷ [])) (right_side reference t))

-- the condition has one of the two forms
abbrev pub is_condition : List ℕ → List (List ℕ) → List ℕ → Bool
is_condition reference keys t = is_some (condition_number reference t) || is_some (condition_key reference keys t)
