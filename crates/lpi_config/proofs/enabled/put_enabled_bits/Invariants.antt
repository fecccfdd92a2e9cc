use Rattle.std.proofs.Common.{◌≡◌, ℕ, ◌*◌, ◌<◌, get_or}
use Rattle.its_types.specs.Bits.{bit_of}
use Rattle.its_types.specs.Bitmap.{word_bit}
use Rattle.lpi_config.proofs.enabled.put_enabled_bits.Given as goal

abbrev pub invariant-loop-at : goal.invariant-loop-at
invariant-loop-at l = (k : ℕ) → k < 64 * l.at → word_bit l.words k ≡ bit_of (get_or l.bytes k 0) 0
