use Rattle.std.proofs.Common.{◌≡◌, ◌++◌, ◌+◌, ◌≤◌, length}
use Rattle.its_plain.specs.Regions.{pages_below}
use Rattle.table_save.proofs.areas.add_pages.Given as goal

abbrev pub invariant-loop-k : goal.invariant-loop-k
invariant-loop-k l = record {
  items : l.areas.items ≡ l.fn.areas.items ++ pages_below l.its l.regs l.memory l.k;
  few : length l.areas.items ≤ length l.fn.areas.items + l.k;
  capacity : l.fn.areas.capacity ≤ l.areas.capacity;
}
