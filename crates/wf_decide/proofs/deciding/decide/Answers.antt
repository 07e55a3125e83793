use Rattle.std.proofs.Common.{◌≡◌, ◌∙◌, ap, subst, ◌+◌, ◌-◌, ◌*◌, max, true, false, length, arith}
use Rattle.std.proofs.lemmas.Bool.Decides.{nat_tests}
use Rattle.wf_machine.specs.State.{Flow}
use Rattle.wf_rules.specs.Rules.{rules_at_most}
use Rattle.wf_setting.specs.Setting.{Setting}
use Rattle.wf_decide.specs.Deciding.{Steps}
use Rattle.wf_decide.proofs.DecideLemmas.{after_settled, after_step, all_rules}
use Rattle.wf_decide.proofs.deciding.decide.Goals as goal

pub returns-then-not-branch : goal.returns-then-not-branch
returns-then-not-branch g c =
    let at = c.args.at.now in
    let count : c.rules_at_most-most.result ≡ rules_at_most at.limits c.args.turn.now =
    c.rules_at_most-most.ensures ∙ ap (λ (f : Flow). 6 * max c.at.inside.limits.now.attempts (length f.attempts) + 2) c.flow.ensures
    ∙ ap (λ (x : Setting). 6 * max x.limits.attempts (length c.args.turn.now.flow.attempts) + 2) c.at.view_is in
    let is : c.in_ok-step.field-0 ≡ false = let h = c.if-not-branch.true in grind (arith, nat_tests) in
    let settled : Steps at.limits at.scene c.args.kept at.moment c.loop-rule.turn c.step.new.turn false =
    subst (λ b. Steps at.limits at.scene c.args.kept at.moment c.loop-rule.turn c.step.new.turn b) is c.in_ok-step.ensures.steps in
    after_settled at.limits at.scene c.args.kept at.moment (c.rules_at_most-most.result - c.loop-rule._rule) c.loop-rule.turn c.step.new.turn settled
    ∙ c.loop-rule.invariant.rest ∙ all_rules at.limits at.scene c.args.kept at.moment c.rules_at_most-most.result c.args.turn.now count

pub loop-rule-preserved : goal.loop-rule-preserved
loop-rule-preserved g c =
    let at = c.args.at.now in
    let is : c.in_ok-step.field-0 ≡ true = let h = c.if-not-branch.false in grind (arith, nat_tests) in
    let applied : Steps at.limits at.scene c.args.kept at.moment c.loop-rule.turn c.step.new.turn true =
    subst (λ b. Steps at.limits at.scene c.args.kept at.moment c.loop-rule.turn c.step.new.turn b) is c.in_ok-step.ensures.steps in
    let count : c.rules_at_most-most.result - c.loop-rule._rule ≡ c.rules_at_most-most.result - (c.loop-rule._rule + 1) + 1 = let lt = c.loop-rule-test.true in omega (arith, lt) in
    record {
      rest =
          after_step at.limits at.scene c.args.kept at.moment (c.rules_at_most-most.result - (c.loop-rule._rule + 1)) (c.rules_at_most-most.result - c.loop-rule._rule) c.loop-rule.turn c.step.new.turn count applied
          ∙ c.loop-rule.invariant.rest;
      children = c.in_ok-step.ensures.children;
    }

pub returns : goal.returns
returns g c =
    let at = c.args.at.now in
    let count : c.rules_at_most-most.result ≡ rules_at_most at.limits c.args.turn.now =
    c.rules_at_most-most.ensures ∙ ap (λ (f : Flow). 6 * max c.at.inside.limits.now.attempts (length f.attempts) + 2) c.flow.ensures
    ∙ ap (λ (x : Setting). 6 * max x.limits.attempts (length c.args.turn.now.flow.attempts) + 2) c.at.view_is in
    let none : c.rules_at_most-most.result - c.loop-rule._rule ≡ 0 = let le = c.loop-rule-test.false in omega (arith, le) in
    let done = rw none at c.loop-rule.invariant.rest in
    done ∙ all_rules at.limits at.scene c.args.kept at.moment c.rules_at_most-most.result c.args.turn.now count
