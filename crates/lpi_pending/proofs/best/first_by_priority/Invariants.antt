use Rattle.std.proofs.Common.{◌+◌, ◌-◌, ◌*◌, ◌/◌, ◌≤◌, length}
use Rattle.lpi_pending.specs.Priorities.{IsBest, is_below, priorities_before}
use Rattle.lpi_pending.specs.Searches.{count_in}
use Rattle.lpi_pending.proofs.best.first_by_priority.Given as goal

abbrev pub invariant-loop-at : goal.invariant-loop-at
invariant-loop-at g l = record {
  within : l.from ≤ length l.looks.words;
  best : IsBest l.looks.words l.looks.config l.mask (64 * l.from) l.best;
  cost : l.steps + priorities_before l.best.limit ≤ l.initial.steps + priorities_before l.mask + l.from / 64
      + 2 * count_in (is_below l.looks.words l.looks.config l.mask) 0 l.from;
}

abbrev pub decreases-loop-at : goal.decreases-loop-at
decreases-loop-at g l = length l.looks.words - l.from
