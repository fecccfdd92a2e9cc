use Rattle.its_bench.specs.Ready.{IsReady}
use Rattle.its_bench.proofs.course.repeat.Given as goal

abbrev pub invariant-loop : goal.invariant-loop
invariant-loop g l = (goal.iterator-loop g).can_next l.iterator' × (goal.iterator-loop g).is_finite l.iterator' × IsReady l.machine l.pass
