-- The scan of bytes for number tokens that no document has.
use Rattle.std.specs.Prelude.{ℕ, ◌^◌, ◌&&◌, ◌||◌, ◌==◌, not, nat_lt, nat_le, Bool, true, false, if◌then◌else◌, List, [], ◌∷◌, length, take, drop, slice_index, Option, Some, None}
use Rattle.std.specs.List.{prefix_len, list_all, list_any}
use Rattle.std.specs.Char.{is_ascii_digit}
use Rattle.std.specs.Str.Parse.{digits_value}
use Rattle.wf_doc.specs.declared.scan.DocFault.{DocFault}
use Rattle.wf_doc.specs.declared.scan.DocFault.TheVariants.{Fraction, Range}
use Rattle.wf_doc.specs.declared.scan.Place.{Place}
use Rattle.wf_doc.specs.declared.scan.Place.TheVariants.{Outside, InNumber, InString, Escaped}

-- ---- number tokens

-- a byte that only a fraction or an exponent has: `.`, `e` and `E`
abbrev pub is_fraction_sign : ℕ → Bool
is_fraction_sign b = (b == 46) || (b == 101) || (b == 69)

-- a byte of a number token: a digit, `+`, `-` or a fraction sign
abbrev pub is_number_byte : ℕ → Bool
is_number_byte b = is_ascii_digit b || (b == 43) || (b == 45) || is_fraction_sign b

-- a digit or `-`
abbrev pub begins_number : ℕ → Bool
begins_number b = is_ascii_digit b || (b == 45)

-- the number token at the front: the longest run of number bytes
abbrev pub token_at : List ℕ → List ℕ
token_at bytes = take (prefix_len is_number_byte bytes) bytes

-- it begins with `-`
abbrev pub is_negative : List ℕ → Bool
is_negative t = slice_index t 0 == 45

-- the token without its minus
abbrev pub digits_of : List ℕ → List ℕ
digits_of t = if is_negative t then drop 1 t else t

-- an optional minus and digits
abbrev pub is_whole : List ℕ → Bool
is_whole t = not (length (digits_of t) == 0) && list_all is_ascii_digit (digits_of t)

-- whether a value of so many digits is outside -2^63 to 2^63 - 1, or written `-0`
abbrev pub is_out_of_range : Bool → ℕ → ℕ → Bool
is_out_of_range true size value = nat_lt (2 ^ 63) value || ((size == 1) && (value == 0))
is_out_of_range false size value = nat_le (2 ^ 63) value

-- the fault of a number token; a token of another form is left to the syntax
abbrev pub token_fault : List ℕ → Option DocFault
token_fault t =
    if list_any is_fraction_sign t then Some Fraction
    else (if is_whole t && is_out_of_range (is_negative t) (length (digits_of t)) (digits_value 10 (digits_of t)) then Some Range else None)

-- ---- the scan

-- where the scan stands after the byte; a quote opens a string, which the next one closes that no escape precedes
abbrev pub next : Place → ℕ → Place
next InString b = if b == 34 then Outside else (if b == 92 then Escaped else InString)
next Escaped b = InString
next InNumber b = if is_number_byte b then InNumber else (if b == 34 then InString else Outside)
next Outside b = if b == 34 then InString else (if begins_number b then InNumber else Outside)

-- a number token begins at the byte
abbrev pub begins_token : Place → ℕ → Bool
begins_token Outside b = begins_number b
begins_token InNumber b = false
begins_token InString b = false
begins_token Escaped b = false

-- the first of two faults
abbrev pub or_later : Option DocFault → Option DocFault → Option DocFault
or_later (Some f) later = Some f
or_later None later = later

-- the fault of the first bad number token outside strings
abbrev pub first_fault : Place → List ℕ → Option DocFault
first_fault p [] = None
first_fault p (b ∷ bs) = or_later (if begins_token p b then token_fault (token_at (b ∷ bs)) else None) (first_fault (next p b) bs)

-- where the scan begins
abbrev pub outside : Place
outside = Outside
