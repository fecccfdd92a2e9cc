use Rattle.std.proofs.Common.{◌≡◌, ◌++◌}
use Rattle.std.specs.FinMap.{entries}
use Rattle.std.specs.List.{AllByRecursion}
use Rattle.guest_windows.specs.Fields.{pairs}
use Rattle.table_save.specs.Areas.{HasLowTable}
use Rattle.table_save.specs.Stretches.{stretches_of}
use Rattle.table_save.specs.Tables.{itt_tables}
use Rattle.table_save.proofs.stretches.list_itts.Given as goal

abbrev pub invariant-loop-device : goal.invariant-loop-device
invariant-loop-device l = record {
  can_next : (goal.iterator-loop-device).can_next l.device-iterator;
  is_finite : (goal.iterator-loop-device).is_finite l.device-iterator;
  low : AllByRecursion HasLowTable l.device-iterator;
  listed : pairs l.list.items ++ stretches_of (itt_tables l.maps.maps l.device-iterator)
      ≡ pairs l.fn.list.items ++ stretches_of (itt_tables l.maps.maps (entries l.fn.maps.maps.devices));
}
