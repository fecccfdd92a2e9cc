use Rattle.std.proofs.Common.{◌≡◌, get_or}
use Rattle.lpi_config.specs.Bounds.{least_in}
use Rattle.lpi_config.proofs.least.least_number.Given as goal

abbrev pub invariant-loop-number : goal.invariant-loop-number
invariant-loop-number l = l.least ≡ least_in (λ k. get_or l.numbers k 0) 0 l.number-index
