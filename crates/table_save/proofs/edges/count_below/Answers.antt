use Rattle.std.proofs.Common.{ℕ, Bool, nat_lt, rules}
use Rattle.std.proofs.lemmas.List.Sorted.{IsPartitionPoint-from_clause, IsPartitionedBy-ltb}
use Rattle.table_save.proofs.Overlaps.{counted}
use Rattle.table_save.proofs.edges.count_below.Goals as goal

pub returns : goal.returns
returns c =
    let p : ℕ → Bool = λ x. nat_lt x c.args.number in
    let at = IsPartitionPoint-from_clause p c.args.rising.now c.partition_point.result c.partition_point.ensures.partitioned
    (IsPartitionedBy-ltb (λ x. x) c.args.rising.now c.args.number c.requires) (λ b r q k. search rules) in
    counted p c.args.rising.now c.partition_point.result c.partition_point.ensures.bound at.0 at.1
