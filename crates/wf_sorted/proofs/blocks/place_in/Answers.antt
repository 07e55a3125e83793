use Rattle.std.proofs.Common.{rules, of_calls}
use Rattle.std.proofs.lemmas.List.Sorted.{IsPartitionPoint-from_clause}
use Rattle.wf_sorted.specs.Blocks.{all_before}
use Rattle.wf_sorted.proofs.BlockLemmas.{parted_by}
use Rattle.wf_sorted.proofs.blocks.place_in.Goals as goal

-- the closure tells whether a block ends before the entry that is sought
pub returns-clause-parted : goal.returns-clause-parted
returns-clause-parted c =
    IsPartitionPoint-from_clause (λ block. all_before c.args.entry block) _ _ c.partition_point.ensures.partitioned
    (parted_by c.args.entry c.args.blocks.now c.requires.rising c.requires.some) (λ a r q k. search (rules, of_calls))
