-- Whether the connection ends after a message.
use Rattle.std.specs.Prelude.{ℕ, ◌==◌, Bool, ◌||◌, if◌then◌else◌, List, [], ◌∷◌, codes}
use Rattle.std.specs.List.{list_any}
use Rattle.httparse.specs.Grammar.{trim_ows}
use Rattle.wf_wire.specs.Fields.{same_word, values}

-- a byte in front of the first part
abbrev pub onto : ℕ → List (List ℕ) → List (List ℕ)
onto b [] = (b ∷ []) ∷ []
onto b (p ∷ ps) = (b ∷ p) ∷ ps

-- the texts between the commas
abbrev pub parts : List ℕ → List (List ℕ)
parts [] = [] ∷ []
parts (b ∷ bs) = if b == 44 then [] ∷ parts bs else onto b (parts bs)

-- the token `close`, with blanks around it or none
abbrev pub is_close : List ℕ → Bool
is_close text = same_word (trim_ows text) (codes "close")

-- one of the texts of this value is that token
abbrev pub holds_close : List ℕ → Bool
holds_close value = list_any is_close (parts value)

-- the values of Connection
abbrev pub connections : List (List ℕ × List ℕ) → List (List ℕ)
connections fields = values (codes "connection") fields

-- HTTP/1.0, or a Connection field that holds the token
abbrev pub closing : ℕ → List (List ℕ × List ℕ) → Bool
closing minor fields = minor == 0 || list_any holds_close (connections fields)
