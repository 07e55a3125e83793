use Rattle.std.proofs.Common.{◌≡◌, ◌+◌, ◌≤◌, ◌^◌, ◌++◌, length, map}
use Rattle.std.specs.Vec.Iter.{into_iter_items}
use Rattle.wf_machine.specs.Flows.{new_kept}
use Rattle.wf_kept.specs.Flows.{AreStarted}
use Rattle.wf_kept.proofs.flows.KeptFlows.add_started.Given as goal

-- those that are left have the next numbers
abbrev pub invariant-loop-flow : goal.invariant-loop-flow
invariant-loop-flow l = record {
  started : AreStarted l.self.next_flow (map (λ f. f.flow) (into_iter_items l.flow-iterator));
  numbers_left : l.self.next_flow + length (into_iter_items l.flow-iterator) ≤ 2 ^ 56;
  room : length (into_iter_items l.flow-iterator) ≤ l.self.spare_flows;
  kept : l.self.kept ++ map (λ f. new_kept l.revision f.flow) (into_iter_items l.flow-iterator) ≡ l.fn.self.kept ++ map (λ f. new_kept l.revision f.flow) l.fn.flows.items;
  next_flow : l.self.next_flow + length (into_iter_items l.flow-iterator) ≡ l.fn.self.next_flow + length l.fn.flows.items;
  next_task : l.self.next_task ≡ l.fn.self.next_task;
}
