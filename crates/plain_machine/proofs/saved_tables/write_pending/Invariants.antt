use Rattle.std.proofs.Common.{◌≡◌, ◌+◌, ◌*◌}
use Rattle.its_plain.specs.Saved as spec
use Rattle.plain_machine.proofs.saved_tables.write_pending.Given as goal

abbrev pub invariant-loop-at : goal.invariant-loop-at
invariant-loop-at l = l.memory
    ≡ record l.initial.memory {
      memory = spec.put_words l.initial.memory.memory l.first.0 (λ i. spec.pending_word l.redist.pending (1024 + 8 * i)) l.at;
    }
