use Rattle.std.proofs.Common.{◌≡◌, ◌+◌, ◌^◌, ◌<◌}
use Rattle.its_types.specs.Bits.{bit_of}
use Rattle.lpi_pending.specs.Searches.{count_in}
use Rattle.lpi_pending.proofs.Searching.{Searched}
use Rattle.lpi_pending.proofs.first.first_in_group.Given as goal

abbrev pub invariant-loop-left : goal.invariant-loop-left
invariant-loop-left g l = record {
  fits : l.left < 2 ^ 64;
  searched : Searched l.looks.words l.looks.config l.group l.left;
  cost : l.steps + count_in (bit_of l.left) 0 64 ≡ l.initial.steps + count_in (bit_of l.used) 0 64;
}

abbrev pub decreases-loop-left : goal.decreases-loop-left
decreases-loop-left g l = count_in (bit_of l.left) 0 64
