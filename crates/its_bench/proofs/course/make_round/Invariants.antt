use Rattle.its_bench.specs.Ready.{IsReady}
use Rattle.its_bench.proofs.course.make_round.Given as goal

abbrev pub invariant-loop-each : goal.invariant-loop-each
invariant-loop-each g l = IsReady l.machine l.pass
