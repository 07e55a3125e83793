use Rattle.std.proofs.Common.{◌≡◌, ◌+◌, ◌∷◌, drop, sym, subst, ap, ◌∙◌}
use Rattle.std.specs.Prelude.{option_map}
use Rattle.std.proofs.lemmas.List.{drop_more}
use Rattle.wf_machine.specs.Queues.{all_waiting, earlier, first_waiting}
use Rattle.wf_kept.specs.Flows.{all_kept, kept}
use Rattle.wf_core.proofs.FoundLemmas.{flows_more}
use Rattle.wf_core.proofs.polls.next_waiting.Goals as goal

pub loop-kept-preserved : goal.loop-kept-preserved
loop-kept-preserved c =
    let flows = c.args.flows.now in
    let i = c.loop-kept.kept-index in
    let item = c.kept-item.result in
    let best = option_map (λ p. record { flow = p.0.now.flow; attempt = p.1.now }) c.loop-kept.best in
    let split : drop i flows ≡ item ∷ drop (i + 1) flows =
    drop_more flows i item c.loop-kept-test.true ∙ ap (λ x. x ∷ drop (i + 1) flows) (sym c.kept-item.is) in
    let so = subst (λ ks. earlier best (first_waiting (all_waiting c.args.name.now c.args.moment (all_kept ks))) ≡ first_waiting (all_waiting c.args.name.now c.args.moment (all_kept flows)))
    split c.loop-kept.invariant in
    rw c.first_with-best.ensures
    (flows_more c.args.name.now c.args.moment best (first_waiting (all_waiting c.args.name.now c.args.moment (all_kept flows))) (kept item) (all_kept (drop (i + 1) flows)) so)
