-- Totals of histories of additions, and answers that tell them.
use Rattle.std.specs.Prelude.{◌≡◌, ℕ, ◌+◌, ◌%◌, ◌^◌, ◌≤◌, List, [], ◌∷◌, ◌++◌, length, take, map, None}
use Rattle.std.specs.List.{fold}
use mathlib.Core.List.{IsPrefix}
use Rattle.wf_lock.specs.Passes.{LockState, PassState, IsPassOf}
use Rattle.wf_counter.specs.declared.counter.Addition.{Addition}
use Rattle.wf_counter.specs.declared.counting.Counted.{Counted}

-- the total after these additions
abbrev pub total_of : ℕ → List Addition → ℕ
total_of start log = fold (λ (n : ℕ) (e : Addition). (n + e.amount) % 2 ^ 64) start log

abbrev pub addition : ℕ → ℕ → Addition
addition caller amount = record { caller = caller; amount = amount }

-- one entry was added behind all that the pass had seen and others had added since, and its place is the pass's own
abbrev pub IsAdded : PassState Addition ℕ → Addition → ℕ → PassState Addition ℕ → Type 0
IsAdded old entry place new = (between : List Addition) × (new ≡ record old { seen = (old.seen ++ between) ++ entry ∷ []; own = old.own ++ place ∷ [] }) × (place ≡ length new.seen)

-- the total that is told at a place is that of the history up to this place
abbrev pub IsAnswer : ℕ → List Addition → Counted → Type 0
IsAnswer start log a = (a.place ≤ length log) × (a.total ≡ total_of start (take a.place log))

abbrev pub AreAnswers : ℕ → List Addition → List Counted → Type 0
AreAnswers start log [] = Unit {0}
AreAnswers start log (a ∷ answers) = IsAnswer start log a × AreAnswers start log answers

-- a pass that was first made so many additions, with these answers
abbrev pub HasCounted : LockState ℕ → ℕ → PassState Addition ℕ → List Counted → PassState Addition ℕ → Type 0
HasCounted lock times first answers pass = IsPassOf lock pass × (pass.turn ≡ None) × IsPrefix first.seen pass.seen × AreAnswers lock.base pass.seen answers
    × (length answers ≡ times) × (pass.own ≡ first.own ++ map (λ a. a.place) answers)
