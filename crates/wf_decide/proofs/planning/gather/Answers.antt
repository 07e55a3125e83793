use Rattle.std.proofs.Common.{◌≡◌, ◌∙◌, sym, ap, ◌+◌, ◌-◌, ◌*◌, max, length, append-nil, arith}
use Rattle.wf_machine.specs.State.{Flow}
use Rattle.wf_rules.specs.Plans.{plan, planned}
use Rattle.wf_rules.specs.Rules.{rules_at_most}
use Rattle.wf_setting.specs.Setting.{Setting}
use Rattle.wf_decide.proofs.PlannedLemmas.{gathered, gathered_all, plan_whole}
use Rattle.wf_decide.proofs.planning.gather.Goals as goal

pub returns-in-None : goal.returns-in-None
returns-in-None g c =
    let at = c.args.at.now in
    let count : c.rules_at_most-most.result ≡ rules_at_most at.limits c.args.turn.now =
    c.rules_at_most-most.ensures ∙ ap (λ (f : Flow). 6 * max c.at.inside.limits.now.attempts (length f.attempts) + 2) c.flow.ensures
    ∙ ap (λ (x : Setting). 6 * max x.limits.attempts (length c.args.turn.now.flow.attempts) + 2) c.at.view_is in
    let none = rw c.in-None.is at c.in_ok-more.ensures.acts in
    gathered_all at.limits at.scene c.args.kept at.moment (c.rules_at_most-most.result - c.loop-rule._rule) c.loop-rule.turn c.loop-rule.acts.items (plan at.limits at.scene c.args.kept at.moment c.args.turn.now) (sym none)
    (c.loop-rule.invariant.rest ∙ plan_whole at.limits at.scene c.args.kept at.moment c.rules_at_most-most.result c.args.turn.now count)

pub loop-rule-preserved : goal.loop-rule-preserved
loop-rule-preserved g c =
    let at = c.args.at.now in
    let count : c.rules_at_most-most.result - c.loop-rule._rule ≡ c.rules_at_most-most.result - (c.loop-rule._rule + 1) + 1 = let lt = c.loop-rule-test.true in omega (arith, lt) in
    let chosen = rw c.in-Some.is at c.in_ok-more.ensures.acts in
    let turn = rw c.in-Some.is at c.in_ok-more.ensures.turn in
    record {
      rest =
          gathered at.limits at.scene c.args.kept at.moment (c.rules_at_most-most.result - (c.loop-rule._rule + 1)) (c.rules_at_most-most.result - c.loop-rule._rule) c.loop-rule.turn c.make_next.new.turn c.loop-rule.acts.items c.in-Some.more.items c.append.new.self.items
          (planned at.limits at.scene c.args.kept at.moment c.rules_at_most-most.result c.args.turn.now) count (sym chosen) turn c.in_ok-append-in-Some.ensures.items c.loop-rule.invariant.rest;
      children = c.in_ok-more.ensures.children;
    }

pub returns : goal.returns
returns g c =
    let at = c.args.at.now in
    let count : c.rules_at_most-most.result ≡ rules_at_most at.limits c.args.turn.now =
    c.rules_at_most-most.ensures ∙ ap (λ (f : Flow). 6 * max c.at.inside.limits.now.attempts (length f.attempts) + 2) c.flow.ensures
    ∙ ap (λ (x : Setting). 6 * max x.limits.attempts (length c.args.turn.now.flow.attempts) + 2) c.at.view_is in
    let none : c.rules_at_most-most.result - c.loop-rule._rule ≡ 0 = let le = c.loop-rule-test.false in omega (arith, le) in
    let done = rw none at c.loop-rule.invariant.rest in
    sym (append-nil c.loop-rule.acts.items) ∙ done ∙ plan_whole at.limits at.scene c.args.kept at.moment c.rules_at_most-most.result c.args.turn.now count
