use Rattle.std.proofs.Common.{◌≡◌, drop}
use Rattle.plain_machine.specs.CollectionEntries.{with_entries}
use Rattle.plain_machine.proofs.collection_entries.add_named.Given as goal

abbrev pub invariant-loop-at : goal.invariant-loop-at
invariant-loop-at l = l.list.items ≡ with_entries l.regs l.initial.list.items (drop l.at l.events)
