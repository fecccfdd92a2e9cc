use Rattle.std.proofs.Common.{◌≡◌, ◌+◌}
use Rattle.its_plain.specs.Saved as spec
use Rattle.plain_machine.proofs.saved_tables.write_places.Given as goal

abbrev pub invariant-loop-at : goal.invariant-loop-at
invariant-loop-at l = l.memory
    ≡ record l.initial.memory { memory = spec.put_words l.initial.memory.memory l.base.0 (λ i. spec.device_word l.maps (l.first + i)) l.at }
