use Rattle.std.proofs.Common.{◌≡◌, ◌++◌, ◌+◌, ◌≤◌, drop, length}
use Rattle.its_plain.specs.Regions.{areas_from, pending_area}
use Rattle.table_save.specs.Areas.{redistributors_of}
use Rattle.table_save.proofs.areas.add_pending.Given as goal

abbrev pub invariant-loop-vcpu : goal.invariant-loop-vcpu
invariant-loop-vcpu l = record {
  items : l.areas.items ++ areas_from (pending_area l.shape) l.vcpu (drop l.vcpu (redistributors_of l.shape l.redists))
      ≡ l.fn.areas.items ++ areas_from (pending_area l.shape) 0 (redistributors_of l.shape l.redists);
  few : length l.areas.items ≤ length l.fn.areas.items + l.vcpu;
  capacity : l.fn.areas.capacity ≤ l.areas.capacity;
}
