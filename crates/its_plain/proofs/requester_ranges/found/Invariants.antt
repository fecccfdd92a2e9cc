use Rattle.std.proofs.Common.{◌≡◌, drop, find}
use Rattle.its_plain.specs.Doorbells.{is_among}
use Rattle.its_plain.proofs.requester_ranges.found.Given as goal

abbrev pub invariant-loop-range : goal.invariant-loop-range
invariant-loop-range l = find (is_among l.requester) (drop l.range-index l.ranges) ≡ find (is_among l.requester) l.ranges
