use Rattle.std.proofs.Common.{◌≡◌, length}
use Rattle.its_history.specs.Reading.{parts, entries_from}
use Rattle.its_history.proofs.ReadLines.{behind}
use Rattle.its_history.proofs.left.Lines.entries.Given as goal

abbrev pub invariant-loop-entries : goal.invariant-loop-entries
invariant-loop-entries l =
    entries_from 0 l.fn.self.number (parts l.fn.self.rest.now) ≡ behind l.entries (entries_from (length l.entries) l.self.number (parts l.self.rest.now))

abbrev pub decreases-loop-entries : goal.decreases-loop-entries
decreases-loop-entries l = length l.self.rest.now
