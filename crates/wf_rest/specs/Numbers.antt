-- Numbers in paths and queries.
use Rattle.std.specs.Prelude.{ℕ, ◌==◌, ◌&&◌, not, nat_le, Bool, false, if◌then◌else◌, List, [], ◌∷◌, Option, None, Some}
use Rattle.std.specs.List.{list_all}
use Rattle.std.specs.Char.{is_ascii_digit}
use Rattle.std.specs.Str.Parse.{digits_value}

-- digits alone, at least one, and no zero in front of another
abbrev pub is_decimal : List ℕ → Bool
is_decimal [] = false
is_decimal (b ∷ []) = is_ascii_digit b
is_decimal (b ∷ bs) = not (b == 48) && list_all is_ascii_digit (b ∷ bs)

abbrev pub if_between : ℕ → ℕ → ℕ → Option ℕ
if_between least most n = if nat_le least n && nat_le n most then Some n else None

-- the number of this range that the text says in decimal
abbrev pub number_in : ℕ → ℕ → List ℕ → Option ℕ
number_in least most text = if is_decimal text then if_between least most (digits_value 10 text) else None
