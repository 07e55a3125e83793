use Rattle.std.proofs.Common.{◌≡◌, drop}
use Rattle.std.specs.Prelude.{option_map}
use Rattle.wf_machine.specs.Queues.{all_waiting, earlier, first_waiting}
use Rattle.wf_kept.specs.Flows.{all_kept}
use Rattle.wf_core.proofs.polls.next_waiting.Given as goal

-- the best so far, beside those of the flows that are left
abbrev pub invariant-loop-kept : goal.invariant-loop-kept
invariant-loop-kept l =
    earlier (option_map (λ p. record { flow = p.0.now.flow; attempt = p.1.now }) l.best) (first_waiting (all_waiting l.name l.moment (all_kept (drop l.kept-index l.flows))))
    ≡ first_waiting (all_waiting l.name l.moment (all_kept l.flows))
