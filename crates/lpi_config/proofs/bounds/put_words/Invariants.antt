use Rattle.std.proofs.Common.{◌≡◌, ℕ, ◌<◌, get_or}
use Rattle.lpi_config.specs.Bounds.{least_of_word}
use Rattle.lpi_config.proofs.bounds.put_words.Given as goal

abbrev pub invariant-loop-at : goal.invariant-loop-at
invariant-loop-at l = (k : ℕ) → k < l.at → get_or l.words k 0 ≡ least_of_word l.bytes k
