use Rattle.std.proofs.Common.{◌≡◌, ◌≤◌, IfSome, length, slice_get}
use Rattle.wf_kept.specs.Flows.{all_kept, revised_with}
use Rattle.wf_kept.proofs.RevisedLemmas.{changed_from}
use Rattle.wf_kept.proofs.flows.revise.Given as goal

-- those from `left` on were looked at
abbrev pub invariant-flows : goal.invariant-flows
invariant-flows l = record {
  within : l.left ≤ length l.fn.flows.items;
  counted : length l.flows.items ≡ length l.fn.flows.items;
  spare : l.flows.spare ≡ l.fn.flows.spare;
  kept : IfSome (slice_get (all_kept l.fn.flows.items) l.place)
      (λ now. all_kept l.flows.items ≡ changed_from (revised_with l.revision l.before.flow now.flow) l.left (all_kept l.fn.flows.items));
}

abbrev pub decreases-flows : goal.decreases-flows
decreases-flows l = l.left
