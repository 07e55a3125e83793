-- Attempts that a search finds.
use Rattle.std.specs.Prelude.{ℕ, Bool, ◌&&◌, ◌||◌, ◌==◌, nat_lt, if◌then◌else◌, List, Option, Some}
use Rattle.wf_machine.specs.State.{Attempt, Flow}
use Rattle.wf_machine.specs.Queues.{Waiting, earlier, is_ready}

-- by the moment at which it is ready, and then by number
abbrev pub comes_first : Attempt → Attempt → Bool
comes_first a b = nat_lt a.ready b.ready || ((a.ready == b.ready) && nat_lt a.number.0 b.number.0)

-- the one that comes first of those so far and the attempt, where that can be handed out
abbrev pub with_waiting : List ℕ → ℕ → Flow → Attempt → Option Waiting → Option Waiting
with_waiting name e f a best = if is_ready name e f.def a then earlier best (Some (record { flow = f; attempt = a })) else best
