use Rattle.std.proofs.Common.{◌-◌, ◌+◌, ◌*◌, ◌≤◌, ℕ}
use Rattle.lpi_pending.specs.Priorities.{IsBest, priorities_before}
use Rattle.lpi_pending.proofs.best.best_in_word.Given as goal

abbrev pub invariant-loop-from : goal.invariant-loop-from
invariant-loop-from g l = record {
  within : l.from ≤ 64;
  best : (mask : ℕ) → IsBest l.looks.words l.looks.config mask (64 * l.at) l.fn.before
      → IsBest l.looks.words l.looks.config mask (64 * l.at + l.from) l.best;
  cost : l.steps + priorities_before l.best.limit ≤ l.initial.steps + priorities_before l.fn.before.limit;
}

abbrev pub decreases-loop-from : goal.decreases-loop-from
decreases-loop-from g l = 64 - l.from
