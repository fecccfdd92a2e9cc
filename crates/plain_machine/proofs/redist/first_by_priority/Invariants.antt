use Rattle.std.proofs.Common.{◌≡◌, drop}
use Rattle.its_types.specs.Lpis.{first_by_priority}
use Rattle.plain_machine.proofs.redist.first_by_priority.Given as goal

abbrev pub invariant-loop-at : goal.invariant-loop-at
invariant-loop-at l = l.best ≡ first_by_priority l.config l.mask (drop l.at l.pending)
