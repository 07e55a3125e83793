-- A turn, as its fields show it.
use Rattle.std.specs.Prelude.{map}
use Rattle.wf_rules.specs.Acts.{Turn as Record}
use Rattle.wf_turn.specs.declared.turn.Turn.TheInside.{Inside}

abbrev pub turn_shown : Inside → Record
turn_shown t =
    record {
      flow = t.flow.flow;
      children = map (λ f. f.flow) t.children.items;
      next_flow = t.next_flow;
      next_task = t.next_task;
    }
