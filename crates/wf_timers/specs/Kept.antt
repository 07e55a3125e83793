-- How marks and deadlines are kept.
use Rattle.std.specs.Prelude.{◌≡◌, ℕ, ◌+◌, ◌≤◌, min, List, [], ◌∷◌, map, Option, None, Some}
use Rattle.wf_sorted.specs.declared.entry.Entry.{Entry}
use Rattle.wf_sorted.specs.Order.{passed, put}
use Rattle.wf_timers.specs.Agenda.{deadline_of}

-- numbers with a mark, and how many more have room
pub record Marked : Type 0 where
  pub numbers : List ℕ
  pub spare : ℕ

-- deadlines by rising number, and how many more have room
pub record Dated : Type 0 where
  pub entries : List Entry
  pub spare : ℕ

-- a mark is an entry without a moment
abbrev pub mark_of : ℕ → Entry
mark_of number = record { moment = 0; number = number }

abbrev pub numbers_of : List Entry → List ℕ
numbers_of entries = map (λ e. e.number) entries

-- each is a mark, its number is at least `low`, and above those before it
abbrev pub AreMarks : ℕ → List Entry → Type 0
AreMarks low [] = Unit {0}
AreMarks low (e ∷ rest) = (e.moment ≡ 0) × (low ≤ e.number) × AreMarks (e.number + 1) rest

-- each number is at least `low`, and above those before it
abbrev pub RiseFrom : ℕ → List Entry → Type 0
RiseFrom low [] = Unit {0}
RiseFrom low (e ∷ rest) = (low ≤ e.number) × RiseFrom (e.number + 1) rest

-- no number has two deadlines
abbrev pub EachOnce : List Entry → Type 0
EachOnce [] = Unit {0}
EachOnce (e ∷ rest) = (deadline_of e.number rest ≡ None) × EachOnce rest

-- the same entries by their moments
abbrev pub ordered : List Entry → List Entry
ordered [] = []
ordered (e ∷ rest) = put e (ordered rest)

-- the lesser of a number and one that may not be there
abbrev pub lesser : ℕ → Option ℕ → ℕ
lesser n None = n
lesser n (Some m) = min n m

-- the lesser of two that may not be there
abbrev pub lesser_of : Option ℕ → Option ℕ → Option ℕ
lesser_of None m = m
lesser_of (Some n) m = Some (lesser n m)

-- the least of the numbers
abbrev pub least_number : List ℕ → Option ℕ
least_number [] = None
least_number (n ∷ rest) = lesser_of (Some n) (least_number rest)

-- the least number whose deadline has passed
abbrev pub least_passed : ℕ → List Entry → Option ℕ
least_passed moment entries = least_number (numbers_of (passed moment entries))
