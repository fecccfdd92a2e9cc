use Rattle.std.proofs.Common.{◌≡◌, ℕ, ◌*◌, ◌<◌, false, get_or}
use Rattle.lpi_pending.specs.Summaries.{is_nonzero}
use Rattle.lpi_pending.proofs.lanes.first_nonzero.Given as goal

abbrev pub invariant-loop-at : goal.invariant-loop-at
invariant-loop-at l = (k : ℕ) → k < 4 * l.at → is_nonzero (get_or l.words k 0) ≡ false
