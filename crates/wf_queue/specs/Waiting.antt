-- Queues by name, and what waits in them.
use Rattle.std.specs.Prelude.{ℕ, Bool, List, [], bytes_eq, Option, option_map}
use Rattle.std.specs.List.{find}
use Rattle.std.specs.Option.{option_map_or}
use Rattle.wf_sorted.specs.declared.entry.Entry.{Entry}
use Rattle.wf_sorted.specs.Order.{least, passed}

-- a queue: what waits in it, and how many more have room
pub record NamedQueue : Type 0 where
  pub name : List ℕ
  pub entries : List Entry
  pub spare : ℕ

abbrev pub is_named : List ℕ → NamedQueue → Bool
is_named name queue = bytes_eq queue.name name

-- what waits in the queue of that name: nothing where there is none
abbrev pub waiting : List ℕ → List NamedQueue → List Entry
waiting name queues = option_map_or (λ queue. queue.entries) (find (is_named name) queues) []

-- how many more have room in the queue of that name
abbrev pub room : List ℕ → List NamedQueue → ℕ
room name queues = option_map_or (λ queue. queue.spare) (find (is_named name) queues) 0

-- the number of the least entry whose moment has come
abbrev pub first_ready : ℕ → List Entry → Option ℕ
first_ready moment entries = option_map (λ entry. entry.number) (least (passed moment entries))
