use Rattle.its_bench.specs.Ready.{IsReady}
use Rattle.its_bench.proofs.signals.hits_at.Given as goal

abbrev pub invariant-loop-n : goal.invariant-loop-n
invariant-loop-n l = IsReady l.machine l.pass
