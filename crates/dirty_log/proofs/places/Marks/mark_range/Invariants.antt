use Rattle.std.proofs.Common.{◌≡◌, ℕ, ◌<◌, length, get_or, false}
use Rattle.std.specs.Prelude.{nat_le, nat_lt, ◌&&◌, ◌||◌}
use Rattle.dirty_log.proofs.places.Marks.mark_range.Given as goal

abbrev pub invariant-loop-at : goal.invariant-loop-at
invariant-loop-at l = record {
  size : length l.self ≡ length l.fn.self;
  each : (k : ℕ) → k < length l.fn.self → get_or l.self k false ≡ (get_or l.fn.self k false || (nat_le l.from k && nat_lt k l.at));
}
