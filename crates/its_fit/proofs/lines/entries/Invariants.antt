use Rattle.std.proofs.Common.{List, length}
use Rattle.its_fit.specs.Explained.{Line}
use Rattle.its_fit.specs.Ordered.{AreLinesOf}
use Rattle.its_fit.proofs.Reports.{Left}
use Rattle.its_fit.proofs.lines.entries.Given as goal

abbrev pub invariant-loop-rest : goal.invariant-loop-rest
invariant-loop-rest l = (all : List Line) → AreLinesOf l.told l.fn.calls all → Left l.told all l.lines.items l.rest

abbrev pub decreases-loop-rest : goal.decreases-loop-rest
decreases-loop-rest l = length l.rest
