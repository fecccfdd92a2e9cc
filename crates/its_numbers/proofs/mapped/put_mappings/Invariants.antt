use Rattle.its_types.specs.Maps.{events_at}
use Rattle.its_maps.specs.Walks.{events_left}
use Rattle.its_numbers.specs.Mapped as spec
use Rattle.its_numbers.proofs.ToldFrom.{IsTold}
use Rattle.its_numbers.proofs.mapped.put_mappings.Given as goal

abbrev pub invariant-loop-ev : goal.invariant-loop-ev
invariant-loop-ev l = record {
  can_next : (goal.iterator-loop-ev).can_next l.ev-iterator;
  is_finite : (goal.iterator-loop-ev).is_finite l.ev-iterator;
  told : IsTold spec.mapping_out l.fn.from (events_at l.fn.maps.maps l.fn.device) (events_left l.ev-iterator) l.initial.list l.list l.at;
}
