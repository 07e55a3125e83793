use Rattle.std.proofs.Common.{◌∙◌, ap, map, sym, arith}
use Rattle.wf_defs.specs.NodeRules.{is_once, last_reference, text_of}
use Rattle.wf_defs.proofs.ListLemmas.{all_fails}
use Rattle.wf_defs.proofs.node_rules.are_once.Goals as goal

pub returns-then-not-is_once : goal.returns-then-not-is_once
returns-then-not-is_once c =
    let once = is_once (map text_of c.args.values.now) in
    let item = c.branch-item.result in
    let fails = ap (λ b. once (last_reference b)) (sym c.branch-item.is) ∙ ap once (sym c.last_reference.ensures) ∙ sym c.is_once.ensures ∙ c.if-not-is_once.true in
    sym (all_fails once last_reference c.args.branches.now c.loop-branch.branch-index item (grind arith) fails)
    ∙ c.loop-branch.invariant
