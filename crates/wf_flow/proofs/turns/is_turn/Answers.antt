use Rattle.std.proofs.Common.{◌∙◌, sym}
use Rattle.wf_flow.proofs.TurnLemmas.{no_turn_begun, turn_if_begun}
use Rattle.wf_flow.proofs.turns.is_turn.Goals as goal

pub returns-then-begins_turn : goal.returns-then-begins_turn
returns-then-begins_turn c = c.are_digits.ensures ∙ turn_if_begun c.args.text.now (sym c.begins_turn.ensures ∙ c.if-begins_turn.true)

pub returns-else-begins_turn : goal.returns-else-begins_turn
returns-else-begins_turn c = c.begins_turn.ensures ∙ no_turn_begun c.args.text.now (sym c.begins_turn.ensures ∙ c.if-begins_turn.false)
