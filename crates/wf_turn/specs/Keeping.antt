-- What the type of a turn keeps, and a turn between the parts of an act.
use Rattle.std.specs.Prelude.{ℕ, ◌+◌, ◌≤◌, ◌^◌, ◌++◌}
use Rattle.wf_machine.specs.State.{RisingTo}
use Rattle.wf_rules.specs.declared.acting.Child.{Child}
use Rattle.wf_rules.specs.Acts.{Turn, births, started}

-- the attempts stand by rising number below the next one, and the last numbers aren't passed
pub record IsSoundTurn (t : Turn) : Type 0 where
  pub rising : RisingTo 1 t.next_task t.flow.attempts
  pub tasks : t.next_task ≤ 2 ^ 56
  pub flows : t.next_flow ≤ 2 ^ 56

-- the flow that a new attempt starts is there, and the attempt isn't yet
abbrev pub with_child : ℕ → Child → Turn → Turn
with_child e child t = record t { children = t.children ++ started e t child; next_flow = t.next_flow + births child }
