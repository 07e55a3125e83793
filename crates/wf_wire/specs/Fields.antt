-- Fields by name, and what they say of the body.
use Rattle.std.specs.Prelude.{ℕ, ◌==◌, nat_le, Bool, true, ◌&&◌, not, if◌then◌else◌, List, [], ◌∷◌, length, Option, Some, None, codes}
use Rattle.std.specs.List.{list_all}
use Rattle.std.specs.Char.{is_ascii_digit}
use Rattle.std.specs.Str.{str_eq_ignore_ascii_case}
use Rattle.std.specs.Str.Parse.{digits_value}
use Rattle.wf_wire.specs.declared.framing.Frame.{Frame}
use Rattle.wf_wire.specs.declared.framing.Frame.TheVariants.{Sized, BadFrame, BadCoding, LargeBody}

-- the same but for the case of letters
abbrev pub same_word : List ℕ → List ℕ → Bool
same_word a b = str_eq_ignore_ascii_case a b

-- the values of the fields of this name, of fields that are given as names and values
abbrev pub values : List ℕ → List (List ℕ × List ℕ) → List (List ℕ)
values name [] = []
values name (f ∷ fs) = if same_word f.0 name then f.1 ∷ values name fs else values name fs

-- what a look for one field finds
pub data Found : Type 0 where
  absent : Found
  one : List ℕ → Found
  many : Found

-- none, the only value, or several
abbrev pub found_of : List (List ℕ) → Found
found_of [] = absent
found_of (v ∷ []) = one v
found_of (v ∷ w ∷ ws) = many

-- ---- Content-Length

-- the values of Content-Length
abbrev pub lengths : List (List ℕ × List ℕ) → List (List ℕ)
lengths fields = values (codes "content-length") fields

-- one or more digits
abbrev pub is_number : List ℕ → Bool
is_number v = not (length v == 0) && list_all is_ascii_digit v

-- the second is a number too, and has the value of the first
abbrev pub agrees : List ℕ → List ℕ → Bool
agrees v w = is_number w && (digits_value 10 v == digits_value 10 w)

-- each of these is a number with the value of the first
abbrev pub all_agree : List ℕ → List (List ℕ) → Bool
all_agree v [] = true
all_agree v (w ∷ ws) = agrees v w && all_agree v ws

-- the value of these digits, where it is at most so much
abbrev pub number_within : ℕ → List ℕ → Option ℕ
number_within most v = if nat_le (digits_value 10 v) most then Some (digits_value 10 v) else None

-- a body of this length, or one above the limit
abbrev pub sized : Option ℕ → Frame
sized (Some n) = Sized n
sized None = LargeBody

-- what the values of Content-Length say of a body that may have so many bytes
abbrev pub length_frame : ℕ → List (List ℕ) → Frame
length_frame most [] = Sized 0
length_frame most (v ∷ vs) = if all_agree v (v ∷ vs) then sized (number_within most v) else BadFrame

-- ---- Transfer-Encoding

-- the values of Transfer-Encoding
abbrev pub codings : List (List ℕ × List ℕ) → List (List ℕ)
codings fields = values (codes "transfer-encoding") fields

-- no transfer coding is read, and HTTP/1.0 has none
abbrev pub coding_frame : ℕ → Frame
coding_frame minor = if minor == 0 then BadFrame else BadCoding

-- by the values of Transfer-Encoding and those of Content-Length
abbrev pub frame_of : ℕ → ℕ → List (List ℕ) → List (List ℕ) → Frame
frame_of most minor [] ls = length_frame most ls
frame_of most minor (c ∷ []) [] = coding_frame minor
frame_of most minor (c ∷ []) (l ∷ ls) = BadFrame
frame_of most minor (c ∷ d ∷ cs) ls = BadFrame

-- what the fields of a head say of its body
abbrev pub framing : ℕ → ℕ → List (List ℕ × List ℕ) → Frame
framing most minor fields = frame_of most minor (codings fields) (lengths fields)
