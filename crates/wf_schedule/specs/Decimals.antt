-- How printed numbers begin.
use Rattle.std.specs.Prelude.{ℕ, ◌==◌, ◌&&◌, ◌||◌, not, Bool, if◌then◌else◌, List, length, slice_index}

-- with no plus, no zero before other digits, and no zero after a minus
abbrev pub begins_so : List ℕ → Bool
begins_so text =
    if slice_index text 0 == 45 then not (slice_index text 1 == 48)
    else not (slice_index text 0 == 43) && (not (slice_index text 0 == 48) || (length text == 1))
