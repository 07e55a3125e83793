-- The pairs of a query.
use Rattle.std.specs.Prelude.{ℕ, List, [], ◌∷◌, Option, Some, None, bytes_eq, map, string_bytes, if◌then◌else◌}
use Rattle.std.specs.Str.Lossy.{utf8_lossy}
use Rattle.form_urlencoded.specs.Form.{decode, raw_pairs}
use Rattle.wf_routes.specs.declared.query.Pair.{Pair}

-- a key and its value, decoded
pub record QueryPair : Type 0 where
  pub key : List ℕ
  pub value : List ℕ

-- the text that a key or a value stands for
abbrev pub query_text : List ℕ → List ℕ
query_text bytes = utf8_lossy (decode bytes)

-- a pair as a form has it, decoded
abbrev pub pair_read : List ℕ × List ℕ → QueryPair
pair_read pair = record { key = query_text pair.0; value = query_text pair.1 }

-- the pairs of a query
abbrev pub query_pairs : List ℕ → List QueryPair
query_pairs query = map pair_read (raw_pairs query)

-- what a pair of the program says
abbrev pub pair_shown : Pair → QueryPair
pair_shown pair = record { key = string_bytes pair.key; value = string_bytes pair.value }

-- the value of the first pair with the key
abbrev pub query_value : List ℕ → List QueryPair → Option (List ℕ)
query_value key [] = None
query_value key (pair ∷ pairs) = if bytes_eq pair.key key then Some pair.value else query_value key pairs
