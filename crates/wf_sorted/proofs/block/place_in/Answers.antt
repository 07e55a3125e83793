use Rattle.std.proofs.Common.{rules, of_calls}
use Rattle.std.proofs.lemmas.List.Sorted.{IsPartitionPoint-from_clause}
use Rattle.wf_sorted.specs.Order.{is_before}
use Rattle.wf_sorted.proofs.OrderLemmas.{parted_by}
use Rattle.wf_sorted.proofs.block.place_in.Goals as goal

-- the closure tells whether an entry comes before the one that is sought
pub returns-clause-parted : goal.returns-clause-parted
returns-clause-parted c =
    IsPartitionPoint-from_clause (λ x. is_before x c.args.entry) _ _ c.partition_point.ensures.partitioned
    (parted_by c.args.entry c.args.items.now c.requires) (λ a r q k. search (rules, of_calls))
