-- What a contract sees of `Hands`: a list of names, each with what was handed out under it.
use Rattle.std.specs.Prelude.{◌≡◌, ◌≢◌, ℕ, ◌<◌, ◌≤◌, nat_eq, List, [], length, slice_index_or, find, Option, IsSome}
use Rattle.std.specs.Option.{option_map_or}
use Rattle.std.specs.Cmp.Lexicographic.{pointwise, slice_cmp}
use Rattle.std.specs.Ordering.{nat_cmp}
use Rattle.std.specs.declared.cmp.Ordering.TheVariants.{Less, Greater}

-- a name, the moments of its last hand-outs from the oldest, and how many of its attempts are in progress
pub record HandOuts : Type 0 where
  pub name : List ℕ
  pub moments : List ℕ
  pub count : ℕ

-- the name's place in the list
abbrev pub hand_outs_of : List HandOuts → List ℕ → Option HandOuts
hand_outs_of hands name = find (λ h. pointwise nat_eq h.name name) hands

-- the name has a place
abbrev pub IsReserved : List HandOuts → List ℕ → Type 0
IsReserved hands name = IsSome (hand_outs_of hands name)

-- the moments of the name's last hand-outs, from the oldest; none where it has no place
abbrev pub moments_of : List HandOuts → List ℕ → List ℕ
moments_of hands name = option_map_or (λ h. h.moments) (hand_outs_of hands name) []

-- how many attempts of the name are in progress; 0 where it has no place
abbrev pub count_of : List HandOuts → List ℕ → ℕ
count_of hands name = option_map_or (λ h. h.count) (hand_outs_of hands name) 0

-- the name has a place with these moments and this count, and every other name is as it was
pub record ChangesOnly (old new : List HandOuts) (name : List ℕ) (moments : List ℕ) (count : ℕ) : Type 0 where
  pub reserved : IsReserved new name
  pub moments_are : moments_of new name ≡ moments
  pub count_is : count_of new name ≡ count
  pub others : (other : List ℕ) → other ≢ name → hand_outs_of new other ≡ hand_outs_of old other

-- ---- the order in which the names are kept

-- no name
abbrev pub nameless : HandOuts
nameless = record { name = []; moments = []; count = 0 }

-- the name at the place
abbrev pub name_at : List HandOuts → ℕ → List ℕ
name_at hands i = let hand = slice_index_or hands i nameless in hand.name

-- the names rise, so no name comes twice
abbrev pub AreSorted : List HandOuts → Type 0
AreSorted hands = (i j : ℕ) → i < j → j < length hands → slice_cmp nat_cmp (name_at hands i) (name_at hands j) ≡ Less

-- the name stands at the place
pub record IsAt (hands : List HandOuts) (name : List ℕ) (i : ℕ) : Type 0 where
  pub in_range : i < length hands
  pub has_name : name_at hands i ≡ name

-- the name stands at the place, and at none before it
pub record IsFirstAt (hands : List HandOuts) (name : List ℕ) (i : ℕ) : Type 0 where
  pub at : IsAt hands name i
  pub not_before : (j : ℕ) → j < i → name_at hands j ≢ name

-- the name would go to the place: lesser names before it, and greater ones from it on
pub record IsGapFor (hands : List HandOuts) (name : List ℕ) (i : ℕ) : Type 0 where
  pub in_range : i ≤ length hands
  pub lesser_before : (j : ℕ) → j < i → slice_cmp nat_cmp (name_at hands j) name ≡ Less
  pub greater_after : (j : ℕ) → i ≤ j → j < length hands → slice_cmp nat_cmp (name_at hands j) name ≡ Greater
