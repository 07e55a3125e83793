use Rattle.std.proofs.Common.{◌≡◌, ◌+◌, ◌*◌, ◌++◌, drop, length, map}
use Rattle.wf_defs.specs.FlowRules.{first_fault, references}
use Rattle.wf_defs.specs.Lists.{listed_as}
use Rattle.wf_defs.specs.NodeReading.{kind_at, nodes_from, nodes_of, nodes_of_lists}
use Rattle.wf_defs.specs.Nodes.{sites_from, sites_inside, sites_of, sites_of_lists}
use Rattle.wf_defs.proofs.node_reading.+reading.Given as goal

abbrev pub decreases-read_kind : goal.decreases-read_kind
decreases-read_kind l = 4 * l.levels

abbrev pub decreases-read_node : goal.decreases-read_node
decreases-read_node l = 4 * l.levels + 1

abbrev pub decreases-read_list : goal.decreases-read_list
decreases-read_list l = 4 * l.levels + 2

abbrev pub decreases-read_lists : goal.decreases-read_lists
decreases-read_lists l = 4 * l.levels + 3

abbrev pub invariant-read_list-loop-n : goal.invariant-read_list-loop-n
invariant-read_list-loop-n l = record {
  faults : first_fault l.most l.initial.seen (sites_of (sites_inside l.levels) (listed_as l.list))
      ≡ first_fault l.most l.seen (sites_from (sites_inside l.levels) (listed_as l.list) l.n (drop l.n l.list.items.now));
  noted : l.initial.seen ++ references (sites_of (sites_inside l.levels) (listed_as l.list))
      ≡ l.seen ++ references (sites_from (sites_inside l.levels) (listed_as l.list) l.n (drop l.n l.list.items.now));
  nodes : nodes_of (sites_inside l.levels) (kind_at l.levels) (length l.initial.seen) (listed_as l.list)
      ≡ l.made ++ nodes_from (sites_inside l.levels) (kind_at l.levels) (listed_as l.list) l.n (length l.seen) (drop l.n l.list.items.now);
}

abbrev pub invariant-read_lists-loop-list : goal.invariant-read_lists-loop-list
invariant-read_lists-loop-list l = record {
  faults : first_fault l.most l.initial.seen (sites_of_lists (sites_inside l.levels) (map listed_as l.lists))
      ≡ first_fault l.most l.seen (sites_of_lists (sites_inside l.levels) (map listed_as (drop l.list-index l.lists)));
  noted : l.initial.seen ++ references (sites_of_lists (sites_inside l.levels) (map listed_as l.lists))
      ≡ l.seen ++ references (sites_of_lists (sites_inside l.levels) (map listed_as (drop l.list-index l.lists)));
  nodes : nodes_of_lists (sites_inside l.levels) (kind_at l.levels) (length l.initial.seen) (map listed_as l.lists)
      ≡ l.made.items ++ nodes_of_lists (sites_inside l.levels) (kind_at l.levels) (length l.seen) (map listed_as (drop l.list-index l.lists));
}
