-- The last attempt at a node, in the order of the list and by number.
use Rattle.std.proofs.Common.{◌≡◌, ℕ, ◌+◌, ◌<◌, ◌≤◌, Bool, true, false, if◌then◌else◌, nat_lt, List, [], ◌∷◌, ◌++◌, map, take, drop, length, get_or, Option, None, Some, refl, arith}
use Rattle.std.proofs.lemmas.Bool.Decides.{nat_tests}
use Rattle.std.proofs.lemmas.List.{take_more, drop_more}
use Rattle.std.proofs.Math.Seq.{drop-length}
use Rattle.std.specs.Option.{option_map}
use Rattle.wf_machine.specs.State.{Attempt, RisingFrom}
use Rattle.wf_machine.specs.Sight.{seen}
use Rattle.wf_machine.specs.Marks.{is_of, later_one, last_of}
use Rattle.wf_machine.specs.Naming.{in_later_turn, is_at, latest_of}
use Rattle.wf_flow.specs.Last.{greater, greatest}

-- ---- in the order of the list

abbrev pub later : Bool → Attempt → Option Attempt → Option Attempt
later b a (Some x) = Some x
later true a None = Some a
later false a None = None

unfoldable pub last_among : ℕ → ℕ → List Attempt → Option Attempt
last_among node iteration [] = None
last_among node iteration (a ∷ rest) = later (is_of node iteration (seen a)) a (last_among node iteration rest)

last_added : (node iteration : ℕ) (xs : List Attempt) (a : Attempt) → last_among node iteration (xs ++ a ∷ []) ≡ (if is_of node iteration (seen a) then Some a else last_among node iteration xs)
unfolding last_among
last_added node iteration [] a = by_test (is_of node iteration (seen a)) where
  by_test : (b : Bool) → later b a None ≡ (if b then Some a else None)
  by_test true = refl
  by_test false = refl
last_added node iteration (x ∷ xs) a =
    rw (last_added node iteration xs a) (by_test (is_of node iteration (seen x)) (is_of node iteration (seen a)) (last_among node iteration xs)) where
      by_test : (b c : Bool) (o : Option Attempt) → later b x (if c then Some a else o) ≡ (if c then Some a else later b x o)
      by_test b true o = refl
      by_test b false o = refl

-- none of no attempts
pub last_none : (node iteration : ℕ) → None ≡ last_among node iteration []
unfolding last_among
last_none node iteration = refl

-- one more attempt
pub last_step : (node iteration : ℕ) (xs : List Attempt) (i : ℕ) (x : Attempt) → i < length xs → x ≡ get_or xs i x → last_among node iteration (take (i + 1) xs) ≡ (if is_of node iteration (seen x) then Some x else last_among node iteration (take i xs))
last_step node iteration xs i x within is =
    let more : take (i + 1) xs ≡ take i xs ++ x ∷ [] = rw (take_more xs i x within, ← is) refl in
    rw more (last_added node iteration (take i xs) x)

-- the rules see the same one
pub last_seen : (node iteration : ℕ) (xs : List Attempt) → option_map seen (last_among node iteration xs) ≡ last_of (map seen xs) node iteration
unfolding last_among last_of
last_seen node iteration [] = refl
last_seen node iteration (a ∷ rest) =
    rw (← last_seen node iteration rest) (by_test (is_of node iteration (seen a)) (last_among node iteration rest)) where
      by_test : (b : Bool) (o : Option Attempt) → option_map seen (later b a o) ≡ later_one b (seen a) (option_map seen o)
      by_test b (Some x) = refl
      by_test true None = refl
      by_test false None = refl

-- ---- by number

abbrev pub IfAt : ℕ → Option Attempt → Type 0
IfAt low None = Unit {0}
IfAt low (Some a) = low ≤ a.number.0

pub at_least : (low node iteration : ℕ) (xs : List Attempt) → RisingFrom low xs → IfAt low (last_among node iteration xs)
unfolding last_among
at_least low node iteration [] rising = tt
at_least low node iteration (a ∷ rest) rising =
    by_test (is_of node iteration (seen a)) (last_among node iteration rest) (at_least (a.number.0 + 1) node iteration rest rising.1) where
      by_test : (b : Bool) (o : Option Attempt) → IfAt (a.number.0 + 1) o → IfAt low (later b a o)
      by_test false None above = tt
      by_test true None above = rising.0
      by_test b (Some x) above = let first = rising.0 in omega (arith, above, first)

-- where numbers rise, the last one has the greatest number
pub last_greatest : (low node iteration : ℕ) (xs : List Attempt) → RisingFrom low xs → last_among node iteration xs ≡ greatest node iteration xs
unfolding last_among greatest
last_greatest low node iteration [] rising = refl
last_greatest low node iteration (a ∷ rest) rising =
    rw (← last_greatest (a.number.0 + 1) node iteration rest rising.1)
    (by_test (is_of node iteration (seen a)) (last_among node iteration rest) (at_least (a.number.0 + 1) node iteration rest rising.1)) where
      by_test : (b : Bool) (o : Option Attempt) → IfAt (a.number.0 + 1) o → later b a o ≡ (if b then greater a o else o)
      by_test true None above = refl
      by_test false None above = refl
      by_test false (Some x) above = refl
      by_test true (Some x) above = let e : nat_lt x.number.0 a.number.0 ≡ false = grind (arith, nat_tests) in rw e refl

-- ---- in the latest turn

-- an attempt before those that were looked at
pub latest_step : (node : ℕ) (xs : List Attempt) (k next : ℕ) (x : Attempt) → k < length xs → next ≡ k + 1 → x ≡ get_or xs k x
    → latest_of (map seen (drop k xs)) node ≡ (if is_at node (seen x) then in_later_turn (seen x) (latest_of (map seen (drop next xs)) node) else latest_of (map seen (drop next xs)) node)
latest_step node xs k next x within follows is = rw (drop_more xs k x within, ← is, follows) refl

-- none of no attempts
pub latest_none : (node : ℕ) (xs : List Attempt) (k : ℕ) → k ≡ length xs → None ≡ latest_of (map seen (drop k xs)) node
latest_none node xs k all = rw (all, drop-length xs) refl
