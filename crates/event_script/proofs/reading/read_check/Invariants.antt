use Rattle.std.proofs.Common.{◌≡◌, ◌+◌, ◌≤◌, length}
use Rattle.event_script.specs.Text.{parts}
use Rattle.event_script.specs.Script.{check_from}
use Rattle.event_script.proofs.reading.read_check.Given as goal

abbrev pub invariant-loop-line : goal.invariant-loop-line
invariant-loop-line l = record {
  read : check_from 1 l.fn.draft (parts l.fn.bytes) ≡ check_from l.number l.draft (parts l.rest);
  small : l.number + length l.rest ≤ length l.fn.bytes + 1;
}

abbrev pub decreases-loop-line : goal.decreases-loop-line
decreases-loop-line l = length l.rest
