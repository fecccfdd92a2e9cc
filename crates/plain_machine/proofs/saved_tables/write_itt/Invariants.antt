use Rattle.std.proofs.Common.{◌≡◌}
use Rattle.its_plain.specs.Saved as spec
use Rattle.plain_machine.proofs.saved_tables.write_itt.Given as goal

abbrev pub invariant-loop-ev : goal.invariant-loop-ev
invariant-loop-ev l = l.memory ≡ record l.initial.memory { memory = spec.put_words l.initial.memory.memory l.base.0 (spec.event_word l.maps l.dev.0) l.ev }
