use Rattle.std.proofs.Common.{◌≡◌, ◌-◌, ◌≤◌, [], vec_len}
use Rattle.std.specs.List.{All}
use Rattle.wf_sorted.proofs.pool.Pool.fill.Given as goal

abbrev pub invariant-loop-self : goal.invariant-loop-self
invariant-loop-self l = record { kept : l.fn.self ≤ vec_len l.self-inside.blocks; empty : All (λ block. block ≡ []) l.self-inside.blocks.items }

abbrev pub decreases-loop-self : goal.decreases-loop-self
decreases-loop-self l = l.many - vec_len l.self-inside.blocks
