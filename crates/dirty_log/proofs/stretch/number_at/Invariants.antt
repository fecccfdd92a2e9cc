use Rattle.std.proofs.Common.{◌≤◌}
use Rattle.dirty_log.proofs.Stretched.{before}
use Rattle.dirty_log.proofs.stretch.number_at.Given as goal

abbrev pub invariant-loop-at : goal.invariant-loop-at
invariant-loop-at l = before l.stretches l.at ≤ l.place
