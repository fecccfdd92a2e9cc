use Rattle.its_bench.specs.Ready.{IsReady}
use Rattle.its_bench.proofs.tables.lap_of_takes.Given as goal

abbrev pub invariant-loop : goal.invariant-loop
invariant-loop g l = IsReady l.machine l.pass
