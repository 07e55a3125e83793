use Rattle.std.proofs.Common.{◌≡◌, ◌+◌, ◌∷◌, drop, sym, subst, ap, ◌∙◌}
use Rattle.std.specs.Prelude.{option_map}
use Rattle.std.proofs.lemmas.List.{drop_more}
use Rattle.wf_machine.specs.Queues.{earlier, first_waiting}
use Rattle.wf_core.proofs.FoundLemmas.{waiting_among, waits_once_more}
use Rattle.wf_core.proofs.polls.first_with.Goals as goal

pub loop-attempt-preserved : goal.loop-attempt-preserved
loop-attempt-preserved c =
    let items = c.attempts-attempt-items.result.now in
    let i = c.loop-attempt.attempt-index in
    let item = c.attempt-item.result in
    let name = c.args.name.now in
    let moment = c.args.moment in
    let flow = c.args.flow.now.flow in
    let best = option_map (λ p. record { flow = p.0.now.flow; attempt = p.1.now }) c.loop-attempt.best in
    let whole = earlier (option_map (λ p. record { flow = p.0.now.flow; attempt = p.1.now }) c.args.before) (first_waiting (waiting_among name moment flow items)) in
    let split : drop i items ≡ item ∷ drop (i + 1) items =
    drop_more items i item c.loop-attempt-test.true ∙ ap (λ x. x ∷ drop (i + 1) items) (sym c.attempt-item.is) in
    let so = subst (λ xs. earlier best (first_waiting (waiting_among name moment flow xs)) ≡ whole) split c.loop-attempt.invariant in
    rw c.with_attempt-best.ensures (waits_once_more name moment flow best whole item (drop (i + 1) items) so)
