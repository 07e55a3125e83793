use Rattle.std.proofs.Common.{◌≡◌, ◌≤◌, length}
use Rattle.wf_machine.specs.Flows.{emptied}
use Rattle.wf_kept.specs.Flows.{all_kept, revised_with}
use Rattle.wf_kept.proofs.RevisedLemmas.{changed_from}
use Rattle.wf_kept.proofs.flows.revise_children.Given as goal

-- those from `left` on were looked at
abbrev pub invariant-flows : goal.invariant-flows
invariant-flows l = record {
  within : l.left ≤ length l.fn.flows.items;
  counted : length l.flows.items ≡ length l.fn.flows.items;
  spare : l.flows.spare ≡ l.fn.flows.spare;
  kept : all_kept l.flows.items ≡ changed_from (revised_with l.revision l.gone.flow (emptied l.gone.flow)) l.left (all_kept l.fn.flows.items);
}

abbrev pub decreases-flows : goal.decreases-flows
decreases-flows l = l.left
