use Rattle.std.proofs.Common.{ltb, rules}
use Rattle.std.proofs.lemmas.List.Sorted.{IsPartitionPoint-from_clause, IsPartitionedBy-ltb}
use Rattle.sk_visible.proofs.list.count_below.Goals as goal

pub returns-clause-point : goal.returns-clause-point
returns-clause-point c =
    let parted = IsPartitionedBy-ltb (λ i. i.stamp) _ c.args.time c.requires in
    IsPartitionPoint-from_clause (λ i. ltb i.stamp c.args.time) _ _ c.partition_point.ensures.partitioned parted (λ a r q k. search rules)
