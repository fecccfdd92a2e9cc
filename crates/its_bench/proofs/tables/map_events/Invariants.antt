use Rattle.its_bench.specs.Ready.{IsReady}
use Rattle.its_bench.proofs.tables.map_events.Given as goal

abbrev pub invariant-loop-ev : goal.invariant-loop-ev
invariant-loop-ev g l = IsReady l.machine l.pass
