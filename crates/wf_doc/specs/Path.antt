-- Paths, and what they select.
use Rattle.std.specs.Prelude.{ℕ, ◌-◌, ◌^◌, ◌&&◌, ◌||◌, ◌==◌, Bool, not, nat_lt, if◌then◌else◌, List, [], ◌∷◌, length, take, slice_get, slice_index, Option, Some, None, option_map, option_and_then}
use Rattle.std.specs.List.{list_all}
use Rattle.std.specs.Char.{is_ascii_digit}
use Rattle.std.specs.Str.Parse.{digits_value}
use Rattle.wf_doc.specs.Doc.{as_list, field}
use Rattle.wf_doc.specs.declared.doc.Doc.{Doc}
use Rattle.wf_doc.specs.declared.path.Step.{Step}
use Rattle.wf_doc.specs.declared.path.Step.TheVariants.{Name, Index}

-- ---- the text of a path

-- `.` and `[` begin a step
abbrev pub begins_step : ℕ → Bool
begins_step b = (b == 46) || (b == 91)

-- a byte that begins no step
abbrev pub is_inside : ℕ → Bool
is_inside b = not (begins_step b)

-- any byte but `.`, `[`, `]`, `{`, `}` and `$`
abbrev pub is_name_byte : ℕ → Bool
is_name_byte b = not (begins_step b || (b == 93) || (b == 123) || (b == 125) || (b == 36))

-- one or more such bytes
abbrev pub is_name : List ℕ → Bool
is_name t = not (length t == 0) && list_all is_name_byte t

-- `.name`, without its dot
abbrev pub name_step : List ℕ → Option Step
name_step t = if is_name t then Some (Name t) else None

-- one or more digits of a value below 2^31
abbrev pub is_index : List ℕ → Bool
is_index digits = not (length digits == 0) && list_all is_ascii_digit digits && nat_lt (digits_value 10 digits) (2 ^ 31)

-- the step that the digits are
abbrev pub index_of : List ℕ → Option Step
index_of digits = if is_index digits then Some (Index (digits_value 10 digits)) else None

-- `[n]`, without its opening bracket
abbrev pub index_step : List ℕ → Option Step
index_step t = if slice_index t (length t - 1) == 93 then index_of (take (length t - 1) t) else None

-- the pieces with a byte more at their front
abbrev pub with_byte : ℕ → List (ℕ × List ℕ) → List (ℕ × List ℕ)
with_byte b [] = []
with_byte b (p ∷ ps) = (p.0, b ∷ p.1) ∷ ps

-- the text cut before each `.` and `[`, where the sign has been read: each piece with the sign before it
abbrev pub pieces : ℕ → List ℕ → List (ℕ × List ℕ)
pieces sign [] = (sign, []) ∷ []
pieces sign (b ∷ bs) = if begins_step b then (sign, []) ∷ pieces b bs else with_byte b (pieces sign bs)

-- the pieces after a first one, from the sign on that ends it
abbrev pub pieces_after : Option (ℕ × List ℕ) → List (ℕ × List ℕ)
pieces_after None = []
pieces_after (Some p) = pieces p.0 p.1

-- the step that a piece is, with the sign before it
abbrev pub step_of : ℕ → List ℕ → Option Step
step_of sign t = if sign == 46 then name_step t else index_step t

-- the steps of the pieces, where each piece is one
abbrev pub all_steps : List (ℕ × List ℕ) → Option (List Step)
all_steps [] = Some []
all_steps (p ∷ ps) = option_and_then (λ step. option_map (λ steps. step ∷ steps) (all_steps ps)) (step_of p.0 p.1)

-- the path that the text is: a name, then any number of `.name` and `[n]`
abbrev pub path_of : List ℕ → Option (List Step)
path_of t = all_steps (pieces 46 t)

-- the name, where the step is one
abbrev name_in : Step → Option (List ℕ)
name_in (Name key) = Some key
name_in (Index n) = None

-- the name that is this step, counted from 0
abbrev pub name_at : List Step → ℕ → Option (List ℕ)
name_at steps n = option_and_then name_in (slice_get steps n)

-- ---- look-up

-- the part that a step selects: a table's value, a list's item
abbrev pub part : Step → Doc → Option Doc
part (Name key) d = field key d
part (Index n) d = option_and_then (λ items. slice_get items n) (as_list d)

-- what the steps select, one after another
abbrev pub at : List Step → Doc → Option Doc
at [] d = Some d
at (step ∷ steps) d = option_and_then (at steps) (part step d)
