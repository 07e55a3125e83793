-- The parts of a request's target.
use Rattle.std.specs.Prelude.{ℕ, List, Bool, Option, Some, None, ◌==◌, if◌then◌else◌}
use Rattle.std.specs.Str.{is_utf8}
use Rattle.percent_encoding.specs.Percent.{percent_decode}

-- the byte is `b'?'`
abbrev pub is_question : ℕ → Bool
is_question b = b == 63

-- the text of a parameter: the bytes that its segment stands for, if they are UTF-8
unfoldable pub parameter_text : List ℕ → Option (List ℕ)
parameter_text segment =
    if is_utf8 (percent_decode segment) then Some (percent_decode segment) else None
