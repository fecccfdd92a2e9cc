use Rattle.std.proofs.Common.{◌≡◌, get_or}
use Rattle.lpi_config.specs.Bounds.{least_in, rank}
use Rattle.lpi_config.proofs.least.least_rank.Given as goal

abbrev pub invariant-loop-byte : goal.invariant-loop-byte
invariant-loop-byte l = l.least ≡ least_in (λ k. rank (get_or l.bytes k 0)) 0 l.byte-index
