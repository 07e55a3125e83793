-- The grammar of the command line.
use Rattle.std.specs.Prelude.{Bool, false, List, [], ◌∷◌, codes, String, string_bytes}
use Rattle.std.specs.declared.alloc.Global.{Global}
use Rattle.wf_machine.specs.Text.{same_text}

-- the one word `batch`
abbrev pub are_batch : List (String Global) → Bool
are_batch [] = false
are_batch (word ∷ []) = same_text (string_bytes word) (codes "batch")
are_batch (word ∷ more ∷ rest) = false

-- the one word `check`
abbrev pub are_check : List (String Global) → Bool
are_check [] = false
are_check (word ∷ []) = same_text (string_bytes word) (codes "check")
are_check (word ∷ more ∷ rest) = false
