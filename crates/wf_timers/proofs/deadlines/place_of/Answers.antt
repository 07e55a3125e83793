use Rattle.std.proofs.Common.{ltb, rules, of_calls}
use Rattle.std.proofs.lemmas.List.Sorted.{IsPartitionPoint-from_clause}
use Rattle.wf_sorted.specs.declared.entry.Entry.{Entry}
use Rattle.wf_timers.proofs.DateLemmas.{parted_by}
use Rattle.wf_timers.proofs.deadlines.place_of.Goals as goal

-- the closure tells whether an entry's number is less than the one that is sought
pub returns-clause-parted : goal.returns-clause-parted
returns-clause-parted c =
    IsPartitionPoint-from_clause (λ (x : Entry). ltb x.number c.args.number) _ _ c.partition_point.ensures.partitioned
    (parted_by 0 c.args.number c.args.entries.now c.requires) (λ a r q k. search (rules, of_calls))
