use Rattle.ports_together.specs.Ready.{IsReady}
use Rattle.ports_together.proofs.passes.sends_all.Given as goal

abbrev pub invariant-loop : goal.invariant-loop
invariant-loop g l = IsReady l.machine l.pass
