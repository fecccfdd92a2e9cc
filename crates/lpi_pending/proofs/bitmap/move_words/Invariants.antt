use Rattle.std.proofs.Common.{◌≡◌, ℕ, ◌<◌, ◌≤◌, get_or, bit_or}
use Rattle.lpi_pending.proofs.bitmap.move_words.Given as goal

abbrev pub invariant-loop-at : goal.invariant-loop-at
invariant-loop-at l = record {
  left : (k : ℕ) → k < l.at → get_or l.from k 0 ≡ 0;
  kept_from : (k : ℕ) → l.at ≤ k → get_or l.from k 0 ≡ get_or l.initial.from k 0;
  kept_to : (k : ℕ) → l.at ≤ k → get_or l.to k 0 ≡ get_or l.initial.to k 0;
  moved : (k : ℕ) → k < l.at → get_or l.to k 0 ≡ bit_or (get_or l.initial.to k 0) (get_or l.initial.from k 0);
}
