use Rattle.std.proofs.Common.{rules, Bool, nat_lt}
use Rattle.std.proofs.lemmas.List.Sorted.{IsPartitionPoint-from_clause}
use Rattle.its_plain.specs.declared.desc.Requesters.{Requesters}
use Rattle.its_plain.proofs.Rising.{parted}
use Rattle.its_plain.proofs.requester_ranges.first_ending_from.Goals as goal

pub returns : goal.returns
returns c =
    let p : Requesters → Bool = λ r. nat_lt r.last c.args.number in
    IsPartitionPoint-from_clause p c.args.ranges.now c.partition_point.result c.partition_point.ensures.partitioned
    (parted c.args.number c.args.ranges.now c.requires) (λ b r q k. search rules)
