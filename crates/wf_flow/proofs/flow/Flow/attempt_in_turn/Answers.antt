use Rattle.std.proofs.Common.{refl, ◌∙◌, ap}
use Rattle.std.proofs.lemmas.List.{take_all}
use Rattle.std.specs.Option.{option_map}
use Rattle.std.specs.Str.Parse.{digits_value}
use Rattle.wf_machine.specs.Sight.{seen}
use Rattle.wf_flow.proofs.LastLemmas.{last_among, last_none, last_step, last_seen}
use Rattle.wf_flow.proofs.flow.Flow.attempt_in_turn.Goals as goal
use Rattle.wf_flow.proofs.flow.Flow.attempt_in_turn.Goals.{then-is_in_turn, else-is_in_turn}

pub loop-attempt-init : goal.loop-attempt-init
loop-attempt-init c = last_none c.args.node (digits_value 10 c.args.digits.now)

pub loop-attempt-preserved : goal.loop-attempt-preserved
loop-attempt-preserved c =
    let named = digits_value 10 c.args.digits.now in
    let step = last_step c.args.node named c.attempts-attempt-items.result.now c.loop-attempt.attempt-index c.attempt-item.result c.loop-attempt-test.true c.attempt-item.is in
    let told = c.is_in_turn.ensures named c.capped_value-turn.ensures in
    elim c.if-is_in_turn.branch [
      | then-is_in_turn w ↦ rw (w.last-is, step, ← told, w.if-is_in_turn.true) refl
      | else-is_in_turn w ↦ rw (w.last-is, step, ← told, w.if-is_in_turn.false) c.loop-attempt.invariant
    ]

pub returns : goal.returns
returns c =
    let named = digits_value 10 c.args.digits.now in
    ap (option_map seen)
    (c.loop-attempt.invariant
    ∙ ap (last_among c.args.node named) (take_all c.loop-attempt.attempt-index c.attempts-attempt-items.result.now c.loop-attempt-test.false ∙ c.attempts-attempt-items.ensures.value))
    ∙ last_seen c.args.node named c.args.self.now.flow.attempts
