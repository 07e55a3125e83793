-- All that waits in one flat list, each with the name of its queue.
use Rattle.std.specs.Prelude.{ℕ, Bool, ◌&&◌, if◌then◌else◌, List, [], ◌∷◌, map, bytes_eq}
use Rattle.wf_sorted.specs.declared.entry.Entry.{Entry}
use Rattle.wf_sorted.specs.Order.{is_same, put}
use Rattle.wf_queue.specs.Waiting.{NamedQueue}

pub record Waiter : Type 0 where
  pub name : List ℕ
  pub entry : Entry

abbrev pub is_waiter : List ℕ → Entry → Waiter → Bool
is_waiter name entry w = bytes_eq w.name name && is_same w.entry entry

-- what waits under the name, in its order
abbrev pub waiting_of : List ℕ → List Waiter → List Entry
waiting_of name [] = []
waiting_of name (w ∷ rest) = if bytes_eq w.name name then put w.entry (waiting_of name rest) else waiting_of name rest

-- for each that waits a queue of its name, with all that waits under that name
abbrev pub as_queues : List Waiter → List NamedQueue
as_queues waiters = map (λ w. record { name = w.name; entries = waiting_of w.name waiters; spare = 0 }) waiters
