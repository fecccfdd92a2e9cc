use Rattle.std.proofs.Common.{◌≡◌, replicate}
use Rattle.lpi_pending.specs.PendingSets.{none_pending}
use Rattle.owned_machine.proofs.stale.no_sets.Given as goal

abbrev pub invariant-loop : goal.invariant-loop
invariant-loop l = l.sets.items ≡ replicate l.counter (none_pending l.lpi_bits)
