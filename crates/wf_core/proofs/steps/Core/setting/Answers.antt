use Rattle.std.proofs.Common.{sym, subst, List, map, filter}
use Rattle.wf_machine.specs.State.{Kept}
use Rattle.wf_rules.specs.Plans.{AllBelow}
use Rattle.wf_rules.specs.Sight.{child_state, is_child_of}
use Rattle.wf_core.specs.Store.{Store}
use Rattle.wf_core.proofs.BesideLemmas.{children_below}
use Rattle.wf_core.proofs.steps.Core.setting.Goals as goal

pub returns-clause-below : goal.returns-clause-below
returns-clause-below c =
    let p = is_child_of c.args.children.now.parent in
    subst (λ (ks : List Kept). AllBelow c.args.self.now.state.next_flow (map child_state (filter p ks))) (sym c.requires.flows)
    (subst (λ (s : Store). AllBelow s.state.next_flow (map child_state (filter p s.state.flows))) c.self.view_is
    (children_below 1 c.self.inside.flows.next_flow p c.self.inside.flows.kept c.as_slice-rising.ensures.rising))
