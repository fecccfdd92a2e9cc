use Rattle.std.proofs.Common.{◌≡◌, ℕ, ◌*◌, ◌<◌, length}
use Rattle.its_types.specs.Bitmap.{word_bit}
use Rattle.lpi_pending.specs.PendingSets.{table_bit}
use Rattle.lpi_pending.proofs.bitmap.Bitmap.read.Given as goal

abbrev pub invariant-loop-at : goal.invariant-loop-at
invariant-loop-at l = record {
  size : length l.self ≡ length l.fn.self;
  bits : (k : ℕ) → k < 64 * l.at → word_bit l.self k ≡ table_bit l.memory l.first.0 k;
}
