use Rattle.its_bench.specs.Ready.{IsReady}
use Rattle.its_bench.proofs.course.send_timed.Given as goal

abbrev pub invariant-loop-n : goal.invariant-loop-n
invariant-loop-n g l = IsReady l.machine l.pass
