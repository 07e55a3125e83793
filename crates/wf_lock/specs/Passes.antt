-- What a contract sees of a lock and of its passes.
use Rattle.std.specs.Prelude.{◌≡◌, ℕ, ◌^◌, ◌<◌, Bool, List, [], ◌∷◌, length, Option, Some, None}
use Rattle.atomic_table.specs.Seated.{TableId}
use Rattle.wf_lock.specs.declared.view.Held.{Held}
use Rattle.wf_lock.specs.declared.view.Stage.{Stage}
use Rattle.wf_lock.specs.declared.view.Stage.TheVariants.{Idle, Waits, Serves}
use Rattle.wf_lock.specs.Places.{ArePlaces}
use Rattle.wf_lock.specs.Rule.{M}
use Rattle.wf_lock.specs.Seats.{SeatOf}

-- a lock: which one it is, and the base of all values behind it
pub record LockState (B : Type 0) : Type 0 where
  pub table : TableId
  pub base : B

-- a pass
pub record PassState (E B : Type 0) : Type 0 where
  -- the table of its lock, and the base of all values behind it
  pub table : TableId
  pub base : Option B
  -- the number that its entries have as their caller
  pub caller : ℕ
  -- the count of entries before its turn, where it has one
  pub turn : Option ℕ
  -- whether it found the tickets used up
  pub full : Bool
  -- the beginning of the history that it has seen, and the places of its own entries
  pub seen : List E
  pub own : List ℕ
  -- the greatest place that it read as stored
  pub read : ℕ
  -- the place that is stored, where it has the drain right, and whether it has it
  pub raised : ℕ
  pub drains : Bool

-- the pass is of this lock
abbrev pub IsPassOf : {E B : Type 0} → LockState B → PassState E B → Type 0
IsPassOf lock pass = (pass.table ≡ lock.table) × (pass.base ≡ Some lock.base)

abbrev pub turn_of : Stage → Option ℕ
turn_of Idle = None
turn_of (Waits t) = None
turn_of (Serves t) = Some t

module _ {T E : Type 0} where
  -- between calls a seat has no ticket and no slot, or the turn with the emptied slot
  abbrev pub RestsIn : List (ℕ × Option (Held T E)) → ℕ → Stage → Type 0
  RestsIn slots n Idle = slots ≡ []
  RestsIn slots n (Waits t) = ⊥
  RestsIn slots n (Serves t) = (slots ≡ (0, None) ∷ []) × (n ≡ t) × (t < 2 ^ 62)

module _ {T E B : Type 0} where
  abbrev pub state_of : SeatOf T E B → ℕ → PassState E B
  state_of seat caller = let v = seat.me.0 in record {
    table = seat.table_id;
    base = v.base;
    caller = caller;
    turn = turn_of v.stage;
    full = v.full;
    seen = v.seen;
    own = v.own;
    read = v.read;
    raised = v.raised;
    drains = v.drains;
  }

  abbrev pub IsAtRest : M T E B → Type 0
  IsAtRest m = RestsIn m.1 (length m.0.seen) m.0.stage × (m.0.told ≡ []) × ArePlaces (length m.0.seen) m.0.own
