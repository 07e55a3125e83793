-- What a clause says of a seat at the table of a lock.
use Rattle.std.specs.Prelude.{◌≡◌, [], Option, Some}
use Rattle.atomic_table.specs.Seated.{TableId}
use Rattle.atomic_table.specs.declared.shared.Seat.{Seat}
use Rattle.wf_lock.specs.declared.view.Held.{Held}
use Rattle.wf_lock.specs.declared.view.View.{View}
use Rattle.wf_lock.specs.declared.view.Stage.TheVariants.{Idle}

-- a seat at the table
abbrev pub SeatOf : Type 0 → Type 0 → Type 0 → Type 0
SeatOf T E B = Seat (Option (Held T E)) (View E B)

module _ {T E B : Type 0} where
  abbrev pub view : SeatOf T E B → View E B
  view p = p.me.0

  abbrev pub IsSame : SeatOf T E B → SeatOf T E B → Type 0
  IsSame p q = (q.table_id ≡ p.table_id) × (q.id ≡ p.id)

  -- it holds no turn and no ticket
  abbrev pub IsIdle : SeatOf T E B → Type 0
  IsIdle p = (p.me.1 ≡ []) × (p.me.0.stage ≡ Idle)

  -- and has learnt all that it was told of
  abbrev pub IsFree : SeatOf T E B → Type 0
  IsFree p = (p.me.1 ≡ []) × (p.me.0.stage ≡ Idle) × (p.me.0.told ≡ [])

-- a pass of the table z, whose values have the base b
abbrev pub IsOf : {T E B : Type 0} → TableId → B → SeatOf T E B → Type 0
IsOf z b p = (p.table_id ≡ z) × (p.me.0.base ≡ Some b)
