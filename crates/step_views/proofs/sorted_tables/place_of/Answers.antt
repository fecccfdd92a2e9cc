use Rattle.std.proofs.Common.{rules}
use Rattle.std.proofs.lemmas.List.Sorted.{IsPartitionPoint-from_clause, IsPartitionedBy-ltb}
use Rattle.step_views.proofs.SortedTables.{place_is}
use Rattle.step_views.proofs.sorted_tables.place_of.Goals as goal
use lib.Dec.{ltb}

pub returns : goal.returns
returns c =
    let parted = IsPartitionedBy-ltb (λ x. x) c.args.tables.now c.args.table c.requires.sorted in
    let point = IsPartitionPoint-from_clause (λ x. ltb x c.args.table) _ _ c.partition_point.ensures.partitioned parted (λ a r q k. search rules) in
    place_is c.args.tables.now c.args.table c.partition_point.result c.requires.sorted c.requires.there point.0 point.1
