use Rattle.std.proofs.Common.{◌≡◌, find}
use Rattle.std.specs.Array.Iter.{array_into_iter_items}
use Rattle.std.specs.Str.{bytes_eq}
use Rattle.wf_names.specs.FlowStatus.{flow_status_named, flow_status_text}
use Rattle.wf_names.proofs.statuses.FlowStatus.read.Given as goal

-- the statuses still to be looked at decide
abbrev pub invariant-loop-status : goal.invariant-loop-status
invariant-loop-status l =
    find (λ status. bytes_eq (flow_status_text status) l.text) (array_into_iter_items l.status-iterator) ≡ flow_status_named l.text
