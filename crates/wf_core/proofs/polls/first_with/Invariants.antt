use Rattle.std.proofs.Common.{◌≡◌, drop}
use Rattle.std.specs.Prelude.{option_map}
use Rattle.wf_machine.specs.Queues.{earlier, first_waiting}
use Rattle.wf_core.proofs.FoundLemmas.{waiting_among}
use Rattle.wf_core.proofs.polls.first_with.Given as goal

-- the best so far, beside those that are left
abbrev pub invariant-loop-attempt : goal.invariant-loop-attempt
invariant-loop-attempt l =
    earlier (option_map (λ p. record { flow = p.0.now.flow; attempt = p.1.now }) l.best) (first_waiting (waiting_among l.name l.moment l.flow.flow (drop l.attempt-index l.attempt-items)))
    ≡ earlier (option_map (λ p. record { flow = p.0.now.flow; attempt = p.1.now }) l.before) (first_waiting (waiting_among l.name l.moment l.flow.flow l.attempt-items))
