use Rattle.std.specs.FinMap.{entries}
use Rattle.its_numbers.specs.Mapped as spec
use Rattle.its_numbers.proofs.ToldFrom.{IsTold}
use Rattle.its_numbers.proofs.mapped.put_collections.Given as goal

abbrev pub invariant-loop-icid : goal.invariant-loop-icid
invariant-loop-icid l = record {
  can_next : (goal.iterator-loop-icid).can_next l.icid-iterator;
  is_finite : (goal.iterator-loop-icid).is_finite l.icid-iterator;
  told : IsTold spec.collection_out l.fn.from (entries l.fn.maps.maps.collections) l.icid-iterator l.initial.list l.list l.at;
}
