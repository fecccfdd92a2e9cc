use Rattle.std.proofs.Common.{◌≡◌, ◌++◌, ◌+◌, ◌-◌, ◌≤◌, length, take}
use Rattle.dirty_log.specs.Stretches.{numbers, run, AreLaid}
use Rattle.dirty_log.proofs.stretch.stretches.Given as goal

abbrev pub invariant-loop-at : goal.invariant-loop-at
invariant-loop-at l = record {
  listed : numbers l.stretches.items ++ run l.last ≡ take l.at l.numbers;
  laid : AreLaid 0 l.stretches.items;
  place : l.last.place ≡ length (numbers l.stretches.items);
  order : l.last.first ≤ l.last.end;
  next : l.at ≡ l.last.place + (l.last.end - l.last.first);
}
