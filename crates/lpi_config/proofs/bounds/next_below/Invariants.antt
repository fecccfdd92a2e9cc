use Rattle.std.proofs.Common.{◌-◌, ◌≤◌, ltb, get_or, length}
use Rattle.lpi_config.specs.Searches.{NoneIn}
use Rattle.lpi_config.proofs.bounds.next_below.Given as goal

abbrev pub invariant-loop-at : goal.invariant-loop-at
invariant-loop-at l = record { from : l.fn.from ≤ l.at; none : NoneIn (λ k. ltb (get_or l.numbers k 0) l.limit) l.fn.from l.at }

abbrev pub decreases-loop-at : goal.decreases-loop-at
decreases-loop-at l = length l.numbers - l.at
