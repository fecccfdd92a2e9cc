use Rattle.std.proofs.Common.{◌-◌, ◌*◌, ◌≤◌, length}
use Rattle.lpi_pending.specs.Priorities.{NoneBelow}
use Rattle.lpi_pending.proofs.looks.Looks.next_group.Given as goal

abbrev pub invariant-loop-skipped : goal.invariant-loop-skipped
invariant-loop-skipped g l = record {
  from : l.fn.from ≤ l.at;
  within : l.at ≤ length l.self-inside.summary.now;
  before : NoneBelow l.self-inside.words.now l.self-inside.config.now.bytes l.limit (4096 * l.fn.from) (4096 * l.at);
}

abbrev pub decreases-loop-skipped : goal.decreases-loop-skipped
decreases-loop-skipped g l = length l.self-inside.summary.now - l.at
