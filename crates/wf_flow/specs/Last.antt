-- The last attempt at a node.
use Rattle.std.specs.Prelude.{ℕ, if◌then◌else◌, nat_lt, List, [], ◌∷◌, Option, None, Some}
use Rattle.wf_machine.specs.State.{Attempt}
use Rattle.wf_machine.specs.Sight.{seen}
use Rattle.wf_machine.specs.Marks.{is_of}

-- the one of the greater number
abbrev pub greater : Attempt → Option Attempt → Option Attempt
greater a None = Some a
greater a (Some b) = if nat_lt b.number.0 a.number.0 then Some a else Some b

-- of the attempts at that node in that iteration that aren't superseded, the one of the greatest number
unfoldable pub greatest : ℕ → ℕ → List Attempt → Option Attempt
greatest node iteration [] = None
greatest node iteration (a ∷ rest) =
    if is_of node iteration (seen a) then greater a (greatest node iteration rest) else greatest node iteration rest
