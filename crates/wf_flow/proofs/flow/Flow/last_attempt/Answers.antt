use Rattle.std.proofs.Common.{◌≡◌, refl, ◌∙◌, ap}
use Rattle.std.proofs.lemmas.List.{take_all}
use Rattle.std.specs.Option.{option_copied, option_map}
use Rattle.wf_machine.specs.Sight.{seen}
use Rattle.wf_flow.proofs.LastLemmas.{last_among, last_none, last_step, last_seen, last_greatest}
use Rattle.wf_flow.proofs.flow.Flow.last_attempt.Goals as goal
use Rattle.wf_flow.proofs.flow.Flow.last_attempt.Goals.{then-is_at, else-is_at}

pub loop-attempt-init : goal.loop-attempt-init
loop-attempt-init c = last_none c.args.node c.args.iteration

pub loop-attempt-preserved : goal.loop-attempt-preserved
loop-attempt-preserved c =
    let step = last_step c.args.node c.args.iteration c.attempts-attempt-items.result.now c.loop-attempt.attempt-index c.attempt-item.result c.loop-attempt-test.true c.attempt-item.is in
    elim c.if-is_at.branch [
      | then-is_at w ↦ rw (w.last-is, step, ← c.is_at.ensures, w.if-is_at.true) refl
      | else-is_at w ↦ rw (w.last-is, step, ← c.is_at.ensures, w.if-is_at.false) c.loop-attempt.invariant
    ]

-- at the end of the loop
found : (c : goal.After-loop-attempt) → option_copied c.loop-attempt.last ≡ last_among c.args.node c.args.iteration c.args.self.now.flow.attempts
found c =
    c.loop-attempt.invariant
    ∙ ap (last_among c.args.node c.args.iteration) (take_all c.loop-attempt.attempt-index c.attempts-attempt-items.result.now c.loop-attempt-test.false ∙ c.attempts-attempt-items.ensures.value)

pub returns-clause-seen : goal.returns-clause-seen
returns-clause-seen c = ap (option_map seen) (found c) ∙ last_seen c.args.node c.args.iteration c.args.self.now.flow.attempts

pub returns-clause-greatest : goal.returns-clause-greatest
returns-clause-greatest c =
    found c ∙ last_greatest 1 c.args.node c.args.iteration c.args.self.now.flow.attempts c.attempts-attempt-items.ensures.rising
