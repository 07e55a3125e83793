-- Numbers with marks and with deadlines, and which of them are due.
use Rattle.std.specs.Prelude.{◌≡◌, ℕ, ◌<◌, ◌==◌, ◌||◌, not, nat_lt, nat_le, Bool, true, false, if◌then◌else◌, List, [], ◌∷◌, filter, Option, None, Some, option_map}
use Rattle.std.specs.List.{find, list_any}
use Rattle.wf_sorted.specs.declared.entry.Entry.{Entry}

-- the numbers with a mark and the deadlines, both by rising number, and how many more have room
pub record Planned : Type 0 where
  pub marks : List ℕ
  pub deadlines : List Entry
  pub spare : ℕ

-- ---- marks

abbrev pub is_marked : ℕ → List ℕ → Bool
is_marked number marks = list_any (λ m. m == number) marks

abbrev pub without_mark : ℕ → List ℕ → List ℕ
without_mark number marks = filter (λ m. not (m == number)) marks

-- the number in front of the first that isn't less
abbrev pub put_number : ℕ → List ℕ → List ℕ
put_number number [] = number ∷ []
put_number number (m ∷ rest) = if nat_lt m number then m ∷ put_number number rest else number ∷ m ∷ rest

abbrev pub with_mark : ℕ → List ℕ → List ℕ
with_mark number marks = put_number number (without_mark number marks)

-- ---- deadlines: an entry's moment is the deadline of its number

abbrev pub deadline_of : ℕ → List Entry → Option ℕ
deadline_of number deadlines = option_map (λ d. d.moment) (find (λ d. d.number == number) deadlines)

abbrev pub without_deadline : ℕ → List Entry → List Entry
without_deadline number deadlines = filter (λ d. not (d.number == number)) deadlines

-- the deadline in front of the first whose number isn't less
abbrev pub put_deadline : Entry → List Entry → List Entry
put_deadline entry [] = entry ∷ []
put_deadline entry (d ∷ rest) = if nat_lt d.number entry.number then d ∷ put_deadline entry rest else entry ∷ d ∷ rest

-- the deadlines with this one as the only one of the number, or with none
abbrev pub with_deadline : ℕ → Option ℕ → List Entry → List Entry
with_deadline number None deadlines = without_deadline number deadlines
with_deadline number (Some moment) deadlines = put_deadline (record { moment = moment; number = number }) (without_deadline number deadlines)

-- for how many there must be room to set it
abbrev pub room_of : Option ℕ → ℕ
room_of None = 0
room_of (Some moment) = 1

-- ---- what is due

-- the deadline is there, and the moment has reached it
abbrev pub has_passed : ℕ → Option ℕ → Bool
has_passed moment None = false
has_passed moment (Some deadline) = nat_le deadline moment

-- the number has a mark or a passed deadline
abbrev pub is_due : ℕ → ℕ → Planned → Bool
is_due moment number planned = is_marked number planned.marks || has_passed moment (deadline_of number planned.deadlines)

-- the number is due and no lesser one is; or none is due
abbrev pub IsLeastDue : ℕ → Planned → Option ℕ → Type 0
IsLeastDue moment planned None = (number : ℕ) → is_due moment number planned ≡ false
IsLeastDue moment planned (Some least) =
    (is_due moment least planned ≡ true) × ((number : ℕ) → number < least → is_due moment number planned ≡ false)
