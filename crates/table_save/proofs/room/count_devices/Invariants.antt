use Rattle.std.proofs.Common.{◌≡◌, ◌+◌, length}
use Rattle.std.specs.FinMap.{entries}
use Rattle.table_save.proofs.room.count_devices.Given as goal

abbrev pub invariant-loop : goal.invariant-loop
invariant-loop l = record {
  can_next : (goal.iterator-loop).can_next l.iterator';
  is_finite : (goal.iterator-loop).is_finite l.iterator';
  counted : l.devices + length l.iterator' ≡ length (entries l.fn.maps.maps.devices);
}
