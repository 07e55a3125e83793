-- How far a turn has come from another: its attempts and its children are more, and numbers only rise.
use Rattle.std.specs.Prelude.{◌≡◌, ℕ, ◌+◌, List, [], ◌∷◌, ◌++◌, length, map}
use Rattle.wf_machine.specs.State.{Attempt, Flow, RisingTo}
use Rattle.wf_rules.specs.Acts.{Turn}

abbrev pub attempt_number : Attempt → ℕ
attempt_number a = a.number.0

-- flows with the numbers from `first` on, one after another, none with an attempt
abbrev pub AreNewFlows : ℕ → List Flow → Type 0
AreNewFlows first [] = Unit {0}
AreNewFlows first (f ∷ rest) = (f.number.0 ≡ first) × (f.attempts ≡ []) × AreNewFlows (first + 1) rest

-- the attempts are the old ones, each as it may be by now under its number, and then more with numbers from `low`, below `high`
pub record AreMoreAttempts (old new : List Attempt) (low high : ℕ) : Type 0 where
  pub first : List Attempt
  pub more : List Attempt
  pub is : new ≡ first ++ more
  pub numbers : map attempt_number first ≡ map attempt_number old
  pub rising : RisingTo low high more

-- the children are the old ones, and then new flows under the next numbers
pub record AreMoreChildren (old new : Turn) : Type 0 where
  pub more : List Flow
  pub is : new.children ≡ old.children ++ more
  pub fresh : AreNewFlows old.next_flow more
  pub next_flow : new.next_flow ≡ old.next_flow + length more

-- what acts leave of a turn
pub record IsLaterTurn (old new : Turn) : Type 0 where
  pub number : new.flow.number ≡ old.flow.number
  pub parent : new.flow.parent ≡ old.flow.parent
  pub def : new.flow.def ≡ old.flow.def
  pub attempts : AreMoreAttempts old.flow.attempts new.flow.attempts old.next_task new.next_task
  pub children : AreMoreChildren old new
