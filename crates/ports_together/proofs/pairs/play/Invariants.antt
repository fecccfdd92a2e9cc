use Rattle.ports_together.specs.Ready.{IsReady}
use Rattle.ports_together.proofs.pairs.play.Given as goal

abbrev pub invariant-loop-row : goal.invariant-loop-row
invariant-loop-row g l = IsReady l.machine l.pass
