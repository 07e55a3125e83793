use Rattle.std.proofs.Common.{ℕ, ◌<◌, ◌≢◌}
use Rattle.wf_limits.specs.Hands.{name_at}
use Rattle.wf_limits.proofs.plain.PlainHands.place.Given as goal

-- no place so far has the name
abbrev pub invariant-loop-place : goal.invariant-loop-place
invariant-loop-place l = (j : ℕ) → j < l.place → name_at l.self j ≢ l.name
