-- How the number of a turn is written in a name.
use Rattle.std.specs.Prelude.{ℕ, ◌&&◌, ◌==◌, Bool, not, nat_lt, nat_le, List, length, slice_index}
use Rattle.std.specs.Fmt.{decimal}
use Rattle.std.specs.Str.Parse.{digits_value}
use Rattle.wf_machine.specs.Text.{same_text}

-- the text is the decimal of a number of at least 1
abbrev pub is_turn : List ℕ → Bool
is_turn text = nat_lt 0 (digits_value 10 text) && same_text text (decimal (digits_value 10 text))

-- it doesn't begin with a zero, and is as long as decimals are
abbrev pub begins_turn : List ℕ → Bool
begins_turn text = not (length text == 0) && not (slice_index text 0 == 48) && nat_le (length text) 64
