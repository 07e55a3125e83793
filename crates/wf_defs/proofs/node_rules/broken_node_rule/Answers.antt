use Rattle.std.specs.Option.{option_copied}
use Rattle.wf_defs.specs.NodeRules.{broken_node_rule, field_rules, type_rules}
use Rattle.wf_defs.proofs.FaultLemmas.{decided_early, decided_late}
use Rattle.wf_defs.proofs.node_rules.broken_node_rule.Goals as goal

pub returns-in-Some : goal.returns-in-Some
unfolding broken_node_rule
returns-in-Some c =
    decided_early (field_rules c.args.earlier.now c.args.node.now)
    (type_rules c.args.most c.args.earlier.now c.args.node.now (option_copied c.args.before) (option_copied c.args.after) c.args.looped)
    _ c.in-Some.ensures

pub returns-in-None : goal.returns-in-None
unfolding broken_node_rule
returns-in-None c =
    decided_late (field_rules c.args.earlier.now c.args.node.now)
    (type_rules c.args.most c.args.earlier.now c.args.node.now (option_copied c.args.before) (option_copied c.args.after) c.args.looped)
    _ c.in-None.ensures c.broken_type_rule.ensures
