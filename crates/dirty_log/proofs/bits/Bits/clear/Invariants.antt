use Rattle.std.proofs.Common.{◌≡◌, ℕ, ◌<◌, ◌≤◌, ◌-◌, length, get_or}
use Rattle.dirty_log.proofs.bits.Bits.clear.Given as goal

abbrev pub invariant-loop-used : goal.invariant-loop-used
invariant-loop-used l = record {
  inside : l.from ≤ length l.self;
  size : length l.self ≡ length l.fn.self;
  zero : (k : ℕ) → k < l.from → get_or l.self k 0 ≡ 0;
}

abbrev pub decreases-loop-used : goal.decreases-loop-used
decreases-loop-used l = length l.self - l.from
