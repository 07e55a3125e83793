-- The parts of a text: plain bytes, and expressions between `${` and `}`.
use Rattle.std.specs.Prelude.{ℕ, zero, suc, ◌+◌, ◌==◌, ◌&&◌, not, Bool, true, if◌then◌else◌, Option, Some, None, List, [], ◌∷◌, ◌++◌, length, drop, slice_index}
use Rattle.std.specs.List.{list_any}

-- a byte that stands for itself, or what stands between `${` and `}`
pub data Part : Type 0 where
  byte : ℕ → Part
  expression : List ℕ → Part

-- `}`
abbrev pub is_closing : ℕ → Bool
is_closing b = b == 125

-- `${` stands at the front of the text, and a `}` somewhere behind it
abbrev pub opens : List ℕ → Bool
opens text = (slice_index text 0 == 36) && (slice_index text 1 == 123) && list_any is_closing (drop 2 text)

-- what stands before the first `}`
abbrev pub before_closing : List ℕ → List ℕ
before_closing [] = []
before_closing (b ∷ bs) = if is_closing b then [] else b ∷ before_closing bs

-- what stands between a `${` at the front and the next `}`
abbrev pub enclosed : List ℕ → List ℕ
enclosed text = before_closing (drop 2 text)

-- the parts of the text without its first n bytes. Where an expression opens it is one part, and behind its `$` the bytes up to its `}` are passed over
abbrev pub parts_behind : ℕ → List ℕ → List Part
parts_behind n [] = []
parts_behind (suc n) (b ∷ bs) = parts_behind n bs
parts_behind zero (b ∷ bs) =
    if opens (b ∷ bs) then expression (enclosed (b ∷ bs)) ∷ parts_behind (length (enclosed (b ∷ bs)) + 2) bs else byte b ∷ parts_behind 0 bs

-- the parts of the text, from the left
abbrev pub parts : List ℕ → List Part
parts text = parts_behind 0 text

-- the bytes that a part stands for in the text
abbrev pub part_bytes : Part → List ℕ
part_bytes (byte b) = b ∷ []
part_bytes (expression e) = 36 ∷ 123 ∷ (e ++ 125 ∷ [])

-- an expression without a `}` in it, or a byte
abbrev pub ends_at_once : Part → Bool
ends_at_once (byte b) = true
ends_at_once (expression e) = not (list_any is_closing e)

-- the expression that is the only part
abbrev pub only_expression : List Part → Option (List ℕ)
only_expression (expression e ∷ []) = Some e
only_expression ps = None
