-- Bits in words of 64, the first at bit 0 of the first word.
use Rattle.std.specs.Prelude.{ℕ, ◌/◌, ◌%◌, Bool, List, slice_index}
use Rattle.its_types.specs.Bits.{bit_of}

abbrev pub word_bit : List ℕ → ℕ → Bool
word_bit words at = bit_of (slice_index words (at / 64)) (at % 64)
