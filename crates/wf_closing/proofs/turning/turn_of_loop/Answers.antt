use Rattle.std.proofs.Common.{◌≡◌, ◌∙◌, sym, ap, map, Some}
use Rattle.wf_machine.specs.Marks.{all_nodes}
use Rattle.wf_machine.specs.Sight.{seen}
use Rattle.wf_rules.specs.Outputs.{turns_on}
use Rattle.wf_rules.specs.Rules.{turn_of_loop, turned_on}
use Rattle.wf_rules.specs.Sight.{sight}
use Rattle.wf_setting.specs.Setting.{Setting, sight_in}
use Rattle.wf_closing.specs.Closing.{turned_doc}
use Rattle.wf_closing.proofs.EndLemmas.{turn_of_loop_is}
use Rattle.wf_closing.proofs.turning.turn_of_loop.Goals as goal

pub returns-in_ok-acts-in-Loop : goal.returns-in_ok-acts-in-Loop
unfolding sight
returns-in_ok-acts-in-Loop g c =
    let s = sight_in c.args.at.now c.args.flow.now.flow in
    let f = map seen c.args.flow.now.flow.attempts in
    let a = c.args.attempt.now in
    let place = c.args.place in
    let limits = c.at.inside.limits.now in
    let made = turned_doc f a.turn (all_nodes c.in-Loop.body) a.output in
    let output : c.in_ok-output-in-Loop.output ≡ made = c.in_ok-output-in-Loop.ensures ∙ ap (λ ns. turned_doc f a.turn (all_nodes ns) a.output) c.as_slice.ensures in
    let on : c.turns_on-goes_on.result ≡ turns_on a.turn c.in-Loop.count a.input =
    c.turns_on-goes_on.ensures.value ∙ ap (λ t. turns_on t c.in-Loop.count c.input.result.now) c.turn.ensures ∙ ap (turns_on a.turn c.in-Loop.count) c.input.ensures in
    ap Some
    (c.in_ok-acts-in-Loop.ensures
    ∙ ap (λ t. turned_on limits place t c.in_ok-output-in-Loop.output c.turns_on-goes_on.result) c.turn-in-Loop.ensures
    ∙ ap (λ d. turned_on limits place a.turn d c.turns_on-goes_on.result) output
    ∙ ap (turned_on limits place a.turn made) on
    ∙ ap (λ (x : Setting). turned_on x.limits place a.turn made (turns_on a.turn c.in-Loop.count a.input)) c.at.view_is)
    ∙ sym
    (ap (turn_of_loop c.args.at.now.limits s place (seen a)) c.in-Loop.is
    ∙ turn_of_loop_is c.args.at.now.limits s place (seen a) c.in-Loop.count c.in-Loop.body)
