use Rattle.std.proofs.Common.{◌-◌, ◌*◌, ◌≤◌, length}
use Rattle.lpi_pending.specs.Priorities.{NoneBelow}
use Rattle.lpi_pending.proofs.looks.Looks.word_from.Given as goal

abbrev pub invariant-loop-at : goal.invariant-loop-at
invariant-loop-at g l = record {
  from : l.fn.from ≤ l.at;
  before : NoneBelow l.self-inside.words.now l.self-inside.config.now.bytes l.limit (64 * l.fn.from) (64 * l.at);
}

abbrev pub decreases-loop-at : goal.decreases-loop-at
decreases-loop-at g l = length l.self-inside.words.now - l.at
