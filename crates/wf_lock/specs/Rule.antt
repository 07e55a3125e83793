-- The rule of the lock's table. Word 0 is the next ticket. Word 1 is the ticket that is served, which is the length of the history. Word 2 is the place up to which the history is stored. Slot 0 has the value.
use Rattle.std.specs.Prelude.{◌≡◌, ◌≢◌, ℕ, ◌+◌, ◌^◌, ◌<◌, ◌≤◌, ◌⊎◌, Bool, true, false, ◌||◌, ◌&&◌, nat_lt, if◌then◌else◌, max, List, [], ◌∷◌, ◌++◌, length, Option, Some, None}
use mathlib.Core.Option.{some}
use mathlib.Core.Option as maybe
use mathlib.Core.List.{IsPrefix}
use lib.ListN.{get_elem?}
use Rattle.atomic_table.specs.Table.{State, Me, Step}
use Rattle.wf_lock.specs.declared.view.Held.{Held}
use Rattle.wf_lock.specs.declared.view.View.{View}
use Rattle.wf_lock.specs.declared.view.Stage.{Stage}
use Rattle.wf_lock.specs.declared.view.Stage.TheVariants.{Idle, Waits, Serves}
use Rattle.wf_lock.specs.Places.{Has, RisesFrom, merged}
use Rattle.wf_lock.specs.Marks.{last_marked, HasMarked}

-- a seat has the ticket a, with which it waits or serves
abbrev pub Holds : Stage → ℕ → Type 0
Holds Idle a = ⊥
Holds (Waits t) a = t ≡ a
Holds (Serves t) a = t ≡ a

abbrev pub IsServing : Stage → Type 0
IsServing Idle = ⊥
IsServing (Waits t) = ⊥
IsServing (Serves t) = Unit {0}

-- a waiting seat's ticket isn't served yet; the serving seat's ticket is the length of the history, all of which it has seen
module _ {E : Type 0} (ticket : ℕ) (log seen : List E) where
  abbrev pub KnowsStage : Stage → Type 0
  KnowsStage Idle = Unit {0}
  KnowsStage (Waits t) = (length log ≤ t) × (t < ticket)
  KnowsStage (Serves t) = (length log ≡ t) × (t < ticket) × (seen ≡ log)

-- what is true of a seat that knows v, where the history is log and all bases are b
pub record Knows {E B : Type 0} (ticket durable : ℕ) (log : List E) (b : B) (v : View E B) : Type 0 where
  -- where it found the tickets used up, they are
  pub full : v.full ≡ true → 2 ^ 62 ≤ ticket
  -- what it has seen, and what it was told of, begin the history
  pub seen : IsPrefix v.seen log
  pub told : IsPrefix v.told log
  -- its own places lie in what it has seen or was told of, and rise
  pub own : (p : ℕ) → Has p v.own → (0 < p) × (p ≤ length log) × ((p ≤ length v.seen) ⊎ (p ≤ length v.told))
  pub rising : RisesFrom 0 v.own
  -- what it read as stored is, and with the drain right it knows the place
  pub read : v.read ≤ durable
  pub raised : v.drains ≡ true → v.raised ≡ durable
  pub once : v.twice ≡ false
  pub base : (c : B) → v.base ≡ Some c → c ≡ b
  pub stage : KnowsStage ticket log v.seen v.stage

module _ {T E B : Type 0} (base : T → B) (stands : T → List E → Type 0) (marked : E → Bool) where
  module _ (b : B) where
    -- the value is at home and stands for the history, or a seat has it
    abbrev pub Rests : List E → maybe.Option (Option (Held T E)) → List (View E B) → Type 0
    Rests log home views =
        ((h : Held T E) × (home ≡ some (Some h)) × (base h.value ≡ b) × stands h.value log × ((j : ℕ) (v : View E B) → get_elem? views j ≡ some v → IsServing v.stage → ⊥))
        ⊎ ((j : ℕ) × (v : View E B) × (get_elem? views j ≡ some v) × IsServing v.stage)

  -- the rule: there is one history, log, and the words, the slot and all seats agree on it
  pub record IsOneHistory (b : B) (s : State (Option (Held T E)) (View E B)) : Type 0 where
    pub log : List E
    pub ticket : ℕ
    pub durable : ℕ
    -- the ticket that is served is the length of the history
    pub words_are : s.words ≡ ticket ∷ length log ∷ durable ∷ []
    -- the tickets out lie from the served one to below the next, and there are at most 2^62
    pub ordered : length log ≤ ticket
    pub bounded : ticket ≤ 2 ^ 62
    pub home : maybe.Option (Option (Held T E))
    pub homes_are : s.homes ≡ home ∷ []
    pub each_seat : (j : ℕ) (v : View E B) → get_elem? s.views j ≡ some v → Knows ticket durable log b v
    -- the tickets out are different, so at most one seat has the turn
    pub apart : (i j a : ℕ) (v w : View E B) → get_elem? s.views i ≡ some v → get_elem? s.views j ≡ some w → Holds v.stage a → Holds w.stage a → i ≡ j
    -- no place is one of two seats' own
    pub alone : (i j p : ℕ) (v w : View E B) → get_elem? s.views i ≡ some v → get_elem? s.views j ≡ some w → Has p v.own → Has p w.own → i ≡ j
    -- the value is in the slot, or with the seat that has the turn
    pub rests : Rests b log home s.views
    -- at most one seat has the drain right, and all marked entries are its own
    pub one_drains : (i j : ℕ) (v w : View E B) → get_elem? s.views i ≡ some v → get_elem? s.views j ≡ some w → v.drains ≡ true → w.drains ≡ true → i ≡ j
    pub drains_all : (j : ℕ) (v : View E B) → get_elem? s.views j ≡ some v → v.drains ≡ true → HasMarked marked log v.own
    -- nothing is stored beyond the last marked entry
    pub stored : durable ≤ last_marked marked log

-- the longer of two lists, the first where they are as long
abbrev pub longer : {E : Type 0} → List E → List E → List E
longer xs ys = if nat_lt (length xs) (length ys) then ys else xs

module _ {E B : Type 0} where
  -- the first seat: it has seen nothing, and has the drain right
  abbrev pub first_view : B → View E B
  first_view b = record { stage = Idle; full = false; seen = []; told = []; own = []; base = Some b; read = 0; raised = 0; drains = true; twice = false }

  -- a new seat: it has seen and read as much
  abbrev pub split_off : View E B → View E B
  split_off v = record { stage = Idle; full = false; seen = v.seen; told = []; own = []; base = v.base; read = v.read; raised = 0; drains = false; twice = false }

  -- what a seat is left with that another took in
  abbrev pub taken_in : View E B
  taken_in = record { stage = Idle; full = false; seen = []; told = []; own = []; base = None; read = 0; raised = 0; drains = false; twice = false }

  -- a seat that took another in. What that one has seen it is told of, and learns next
  abbrev pub joined : View E B → View E B → View E B
  joined v w = record { stage = v.stage; full = w.full || v.full; seen = v.seen; told = w.seen; own = merged v.own w.own; base = v.base; read = max v.read w.read; raised = (if w.drains then w.raised else v.raised); drains = w.drains || v.drains; twice = w.drains && v.drains }

  -- a seat whose turn of the ticket a ended with the entry e
  abbrev pub with_entry : View E B → ℕ → E → View E B
  with_entry v a e = record { stage = Idle; full = v.full; seen = v.seen ++ e ∷ []; told = v.told; own = v.own ++ (a + 1) ∷ []; base = v.base; read = v.read; raised = v.raised; drains = v.drains; twice = v.twice }

-- what a seat knows, and which slots it holds
abbrev pub M : Type 0 → Type 0 → Type 0 → Type 0
M T E B = Me (Option (Held T E)) (View E B)

module _ {T E B : Type 0} where
  -- the next ticket was read. At 2^62 it is too late
  abbrev pub SeesTicket : (E → Bool) → Step (Option (Held T E)) → M T E B → ℕ → M T E B → Type 0
  SeesTicket marked s m n k = (m.0.told ≡ [] → m.0.drains ≡ true → m.0.raised ≤ last_marked marked m.0.seen) × (k.1 ≡ m.1) × (n < 2 ^ 62 → (k.0 ≡ m.0) × (m.0.full ≡ false)) × (2 ^ 62 ≤ n → k.0 ≡ record m.0 { full = true })

  -- the ticket was drawn, or another seat was faster
  abbrev pub DrawsTicket : Step (Option (Held T E)) → M T E B → ℕ → M T E B → Type 0
  DrawsTicket s m n k = (k.1 ≡ m.1) × (n ≡ s.first → k.0 ≡ record m.0 { stage = Waits s.first }) × (n ≢ s.first → k.0 ≡ m.0)

  -- the turn of the ticket a: the value is out, and stands for the history, which begins with what was seen
  abbrev pub HasTurn : (T → B) → (T → List E → Type 0) → (E → Bool) → ℕ → M T E B → M T E B → Type 0
  HasTurn base stands marked a m k = (h : Held T E) × (k.1 ≡ (0, Some h) ∷ m.1) × ((c : B) → m.0.base ≡ Some c → base h.value ≡ c)
      × ((log : List E) × (k.0 ≡ record m.0 { stage = Serves a; seen = log }) × (length log ≡ a) × IsPrefix m.0.seen log × stands h.value log
      × (m.0.told ≡ [] → m.0.drains ≡ true → HasMarked marked log m.0.own × (last_marked marked log ≡ last_marked marked m.0.seen) × (m.0.raised ≤ last_marked marked log)))

  -- the served ticket was read. Where it is the seat's own, the turn begins
  abbrev pub LooksAtServing : (T → B) → (T → List E → Type 0) → (E → Bool) → Step (Option (Held T E)) → M T E B → ℕ → M T E B → Type 0
  LooksAtServing base stands marked s m n k = (a : ℕ) → m.0.stage ≡ Waits a → (n ≡ a → HasTurn base stands marked a m k) × (n ≢ a → (k.1 ≡ m.1) × (k.0 ≡ m.0))

  -- the turn ended: the entry beside the value was added, and the value given back
  abbrev pub Finishes : Step (Option (Held T E)) → M T E B → ℕ → M T E B → Type 0
  Finishes s m n k = (a : ℕ) (h : Held T E) (e : E) → m.0.stage ≡ Serves a → m.1 ≡ (0, Some h) ∷ [] → h.last ≡ Some e → (n ≡ a) × (k.1 ≡ []) × (k.0 ≡ with_entry m.0 a e)

  -- what the seat was told of was learnt
  abbrev pub Learns : Step (Option (Held T E)) → M T E B → ℕ → M T E B → Type 0
  Learns s m n k = (k.1 ≡ m.1) × (k.0 ≡ record m.0 { seen = longer m.0.seen m.0.told; told = [] }) × IsPrefix m.0.seen k.0.seen × IsPrefix m.0.told k.0.seen × (m.0.drains ≡ true → m.0.read ≤ m.0.raised) × RisesFrom 0 m.0.own × (m.0.twice ≡ false)

  -- what is stored was raised to this place at least
  abbrev pub Raises : Step (Option (Held T E)) → M T E B → ℕ → M T E B → Type 0
  Raises s m n k = (k.1 ≡ m.1) × (k.0 ≡ record m.0 { raised = max m.0.raised s.first })

  -- the place that is stored was read
  abbrev pub SeesDurable : Step (Option (Held T E)) → M T E B → ℕ → M T E B → Type 0
  SeesDurable s m n k = (k.1 ≡ m.1) × (k.0 ≡ record m.0 { read = n }) × (m.0.read ≤ n) × (m.0.drains ≡ true → n ≡ m.0.raised)
