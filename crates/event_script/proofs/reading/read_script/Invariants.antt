use Rattle.std.proofs.Common.{◌≡◌, ◌+◌, ◌≤◌, length}
use Rattle.event_script.specs.Text.{parts}
use Rattle.event_script.specs.Script.{parts_from}
use Rattle.event_script.proofs.reading.read_script.Given as goal

abbrev pub invariant-loop-line : goal.invariant-loop-line
invariant-loop-line l = record {
  read : parts_from 1 l.fn.draft (parts l.fn.bytes) ≡ parts_from l.number l.draft (parts l.rest);
  small : l.number + length l.rest ≤ length l.fn.bytes + 1;
}

abbrev pub decreases-loop-line : goal.decreases-loop-line
decreases-loop-line l = length l.rest
