-- When limits admit one more hand-out.
use Rattle.std.specs.Prelude.{ℕ, ◌+◌, ◌*◌, Bool, ◌&&◌, ◌||◌, ◌==◌, nat_lt, nat_le, List, length, filter}
use Rattle.wf_limits.specs.declared.limits.TaskLimits.{TaskLimits}

-- a hand-out counts at the moment: it is no later, and its window of so many seconds hasn't passed
abbrev pub is_within : ℕ → ℕ → ℕ → Bool
is_within per moment hand_out = nat_le hand_out moment && nat_lt moment (hand_out + 1000 * per)

-- one more attempt may be in progress
abbrev pub has_place : TaskLimits → ℕ → Bool
has_place limits count = limits.concurrent == 0 || nat_lt count limits.concurrent

-- one more hand-out may come at the moment
abbrev pub has_turn : TaskLimits → ℕ → List ℕ → Bool
has_turn limits moment hand_outs = limits.rate == 0 || nat_lt (length (filter (is_within limits.per moment) hand_outs)) limits.rate

-- both limits admit one more
abbrev pub is_admitted : TaskLimits → ℕ → List ℕ → ℕ → Bool
is_admitted limits moment hand_outs count = has_place limits count && has_turn limits moment hand_outs
