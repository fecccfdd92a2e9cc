use Rattle.std.proofs.Common.{◌≡◌}
use Rattle.its_plain.specs.Saved as spec
use Rattle.plain_machine.specs.CollectionEntries.{entry_word}
use Rattle.plain_machine.proofs.saved_tables.write_entries.Given as goal

abbrev pub invariant-loop-at : goal.invariant-loop-at
invariant-loop-at l = l.memory
    ≡ record l.initial.memory { memory = spec.put_words l.initial.memory.memory l.base.0 (entry_word l.collections) l.at }
