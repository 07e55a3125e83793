-- The moments of requests.
use Rattle.std.specs.Prelude.{ℕ, ◌==◌, ◌&&◌, ◌-◌, ◌^◌, nat_le, Bool, not, is_some, if◌then◌else◌, List, [], ◌∷◌, length, codes, Option, None, Some, unwrap_or}
use Rattle.std.specs.List.{list_all}
use Rattle.std.specs.Char.{is_ascii_digit}
use Rattle.std.specs.Str.Parse.{digits_value}
use Rattle.wf_wire.specs.Request.{Request, values_of}

-- the last moment that there is
abbrev pub last_moment : ℕ
last_moment = 2 ^ 53 - 1

-- 1 to 16 digits, of at most the last moment
abbrev pub is_moment_text : List ℕ → Bool
is_moment_text v = not (length v == 0) && nat_le (length v) 16 && list_all is_ascii_digit v && nat_le (digits_value 10 v) last_moment

-- the values of the field Moment-Ms
abbrev pub moment_values : Request → List (List ℕ)
moment_values m = values_of (codes "moment-ms") m

-- the moment that one value says
abbrev pub moment_in : List (List ℕ) → Option ℕ
moment_in (v ∷ []) = if is_moment_text v then Some (digits_value 10 v) else None
moment_in vs = None

-- the moment that a request states, in one such field
abbrev pub stated_moment : Request → Option ℕ
stated_moment m = moment_in (moment_values m)

-- a request that has the field, and states no moment by it
abbrev pub has_bad_moment : Request → Bool
has_bad_moment m = not (length (moment_values m) == 0) && not (is_some (stated_moment m))

-- the moment of a request: the one that it states, or else that of the request before it
abbrev pub moment_at : ℕ → Request → ℕ
moment_at before m = unwrap_or (stated_moment m) before
