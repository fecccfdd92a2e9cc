use Rattle.std.proofs.Common.{◌≡◌, ℕ, ◌<◌, length, get_or, false}
use Rattle.std.specs.Prelude.{nat_le, nat_lt, ◌&&◌, ◌||◌}
use Rattle.dirty_log.specs.Stretches.{numbers}
use Rattle.dirty_log.proofs.Stretched.{before}
use Rattle.dirty_log.proofs.stretch.mark_numbers.Given as goal

abbrev pub invariant-loop-at : goal.invariant-loop-at
invariant-loop-at l = record {
  size : length l.marks ≡ length l.fn.marks;
  each : (k : ℕ) → k < length l.fn.marks → get_or l.marks k false ≡ (get_or l.fn.marks k false
      || (nat_lt k (before l.stretches l.at) && (nat_le l.first (get_or (numbers l.stretches) k 0) && nat_lt (get_or (numbers l.stretches) k 0) l.end)));
}
