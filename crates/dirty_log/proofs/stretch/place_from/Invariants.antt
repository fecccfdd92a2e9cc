use Rattle.std.proofs.Common.{ℕ, ◌<◌, get_or}
use Rattle.dirty_log.specs.Stretches.{numbers}
use Rattle.dirty_log.proofs.Stretched.{before}
use Rattle.dirty_log.proofs.stretch.place_from.Given as goal

abbrev pub invariant-loop-at : goal.invariant-loop-at
invariant-loop-at l = (k : ℕ) → k < before l.stretches l.at → get_or (numbers l.stretches) k 0 < l.number
