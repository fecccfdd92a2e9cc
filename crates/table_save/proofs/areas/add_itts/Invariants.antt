use Rattle.std.proofs.Common.{◌≡◌, ◌++◌, ◌+◌, ◌≤◌, length}
use Rattle.std.specs.FinMap.{entries}
use Rattle.std.specs.List.{AllByRecursion}
use Rattle.table_save.specs.Areas.{itt_areas, HasLowTable}
use Rattle.table_save.proofs.areas.add_itts.Given as goal

abbrev pub invariant-loop-dev : goal.invariant-loop-dev
invariant-loop-dev l = record {
  can_next : (goal.iterator-loop-dev).can_next l.dev-iterator;
  is_finite : (goal.iterator-loop-dev).is_finite l.dev-iterator;
  low : AllByRecursion HasLowTable l.dev-iterator;
  areas : l.areas.items ++ itt_areas l.its l.dev-iterator ≡ l.fn.areas.items ++ itt_areas l.its (entries l.fn.maps.maps.devices);
  few : length l.areas.items + length l.dev-iterator ≤ length l.fn.areas.items + length (entries l.fn.maps.maps.devices);
  capacity : l.fn.areas.capacity ≤ l.areas.capacity;
}
