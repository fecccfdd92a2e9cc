use Rattle.std.proofs.Common.{◌≡◌, ◌++◌, take, drop}
use Rattle.its_types.specs.Lpis.{with_lpi}
use Rattle.plain_machine.proofs.rising_lists.add_rising.Given as goal

abbrev pub invariant-loop-at : goal.invariant-loop-at
invariant-loop-at l = record {
  same : l.list.items ≡ l.initial.list.items;
  rest : take l.at l.list.items ++ with_lpi l.number (drop l.at l.list.items) ≡ with_lpi l.number l.list.items;
}
