use Rattle.std.proofs.Common.{◌≡◌, ◌+◌, drop}
use Rattle.std.specs.Prelude.{◌==◌}
use Rattle.std.specs.List.{list_any}
use Rattle.wf_keeper.proofs.calls.Calls.fails_next.Given as goal

abbrev pub invariant-loop-number : goal.invariant-loop-number
invariant-loop-number l = list_any (λ n. n == l.self-inside.made + 1) l.self-inside.fails.items ≡ list_any (λ n. n == l.self-inside.made + 1) (drop l.number-index l.self-inside.fails.items)
