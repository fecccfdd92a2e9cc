use Rattle.its_bench.specs.Ready.{IsReady}
use Rattle.its_bench.proofs.memory.dirty.Given as goal

abbrev pub invariant-loop-page : goal.invariant-loop-page
invariant-loop-page g l = IsReady l.machine l.pass
