-- Names, and the references that expressions call nodes by.
use Rattle.std.specs.Prelude.{ℕ, ◌&&◌, ◌||◌, ◌==◌, nat_eq, nat_le, nat_lt, not, Bool, false, List, [], ◌∷◌, length, drop, codes}
use Rattle.std.specs.List.{list_any, list_all, starts_with}
use Rattle.std.specs.Char.{is_ascii_digit}
use Rattle.wf_machine.specs.Text.{same_text}

-- a control character: below U+0020, or U+007F
abbrev pub is_control : ℕ → Bool
is_control b = nat_lt b 32 || (b == 127)

abbrev pub is_short : List ℕ → Bool
is_short w = not (length w == 0) && nat_le (length w) 255

-- 1 to 255 bytes without control characters
abbrev pub is_name : List ℕ → Bool
is_name w = is_short w && not (list_any is_control w)

-- `.`, `[`, `]`, `{`, `}`, `$`, `'` and `"`
abbrev pub is_sign : ℕ → Bool
is_sign b = (b == 46) || (b == 91) || (b == 93) || (b == 123) || (b == 125) || (b == 36) || (b == 39) || (b == 34)

-- `__` and digits, one at least
abbrev pub is_turn : List ℕ → Bool
is_turn bytes = starts_with nat_eq bytes (codes "__") && nat_lt 2 (length bytes) && list_all is_ascii_digit (drop 2 bytes)

-- some end of the word is that: so a node inside a loop is named in one of its turns
abbrev pub ends_in_turn : List ℕ → Bool
ends_in_turn [] = false
ends_in_turn (b ∷ bs) = is_turn (b ∷ bs) || ends_in_turn bs

-- what a node may be called by, if no other is
abbrev pub is_reference : List ℕ → Bool
is_reference w = is_name w && not (list_any is_sign w) && not (same_text w (codes "workflow")) && not (ends_in_turn w)
