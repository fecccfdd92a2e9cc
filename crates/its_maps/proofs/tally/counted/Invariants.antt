use Rattle.std.proofs.Common.{◌≡◌, ℕ, ◌<◌, length, get_or, take}
use Rattle.std.specs.List.{sum_by}
use Rattle.its_maps.specs.Counting.{is_named}
use Rattle.its_maps.proofs.tally.counted.Given as goal

-- of the ICIDs so far
abbrev pub invariant-loop-number : goal.invariant-loop-number
invariant-loop-number l = record {
  table : length l.counts.items ≡ 65536;
  counts : (n : ℕ) → n < 65536 → get_or l.counts.items n 0 ≡ sum_by (λ i. is_named i.0 n) (take l.number-index l.icids);
}
