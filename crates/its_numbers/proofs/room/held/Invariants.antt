use Rattle.std.proofs.Common.{◌≤◌, ◌-◌}
use Rattle.its_numbers.proofs.room.held.Given as goal

abbrev pub invariant-loop-pages : goal.invariant-loop-pages
invariant-loop-pages l = l.pages ≤ l.most

abbrev pub decreases-loop-pages : goal.decreases-loop-pages
decreases-loop-pages l = l.most - l.pages
