use Rattle.std.proofs.Common.{◌+◌, ◌-◌, ◌*◌, ◌≤◌, length}
use Rattle.lpi_pending.specs.Searches.{NoneIn, count_in}
use Rattle.lpi_pending.specs.Summaries.{is_used, is_ready}
use Rattle.lpi_pending.proofs.first.first_ready.Given as goal

abbrev pub invariant-loop-used : goal.invariant-loop-used
invariant-loop-used g l = record {
  within : 64 * l.at ≤ length l.looks.words;
  before : NoneIn (is_ready l.looks.words l.looks.config) 0 (4096 * l.at);
  cost : l.steps ≤ l.initial.steps + l.at + count_in (is_used l.looks.words) 0 (64 * l.at);
}

abbrev pub decreases-loop-used : goal.decreases-loop-used
decreases-loop-used g l = length l.looks.words - l.at
