use Rattle.std.proofs.Common.{◌++◌, ◌∷◌, [], ◌∙◌, refl, ap}
use Rattle.wf_machine.specs.State.{Flow}
use Rattle.wf_turn.specs.TurnFields.{turn_shown}
use Rattle.wf_turn.proofs.ActLemmas.{sound_put}
use Rattle.wf_turn.proofs.turn.Turn.put.Goals as goal

pub invariant_of-self-2 : goal.invariant_of-self-2
invariant_of-self-2 c =
    sound_put (turn_shown c.self.inside) c.args.attempt (c.self.inside.flow.flow.attempts ++ c.args.attempt ∷ []) c.self.invariant (rw (← c.self.view_is) at c.requires.number) (rw (← c.self.view_is) at c.requires.tasks) refl
    c.add.new.self.flow
    (ap (λ (f : Flow). f.attempts) c.add.ensures.flow ∙ ap (λ (f : Flow). f.attempts ++ c.args.attempt ∷ []) c.reserve.ensures.flow)
