use Rattle.its_bench.specs.Ready.{IsReady}
use Rattle.its_bench.proofs.signals.warm.Given as goal

abbrev pub invariant-loop-dev : goal.invariant-loop-dev
invariant-loop-dev g l = IsReady l.machine l.pass
