use Rattle.std.proofs.Common.{◌≡◌, drop}
use Rattle.its_plain.specs.Rising.{rise_from}
use Rattle.its_plain.proofs.requester_ranges.rise.Given as goal

abbrev pub invariant-loop-range : goal.invariant-loop-range
invariant-loop-range l = rise_from l.low (drop l.range-index l.ranges) ≡ rise_from 0 l.ranges
