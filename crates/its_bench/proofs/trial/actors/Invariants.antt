use Rattle.std.specs.Prelude.{◌≤◌, ◌+◌}
use Rattle.std.specs.List.{AllByRecursion}
use Rattle.its_turns.specs.Machines.{view}
use Rattle.its_bench.specs.Ready.{IsReady, IsRoot}
use Rattle.its_bench.proofs.trial.actors.Given as goal

abbrev pub invariant-loop-asks : goal.invariant-loop-asks
invariant-loop-asks l = record {
  next : (goal.iterator-loop-asks).can_next l.asks-iterator;
  finite : (goal.iterator-loop-asks).is_finite l.asks-iterator;
  root : IsRoot l.machine l.root;
  made : (view l.root).root.made + l.asks-iterator.rest.len ≤ 67;
  actors : AllByRecursion (λ a. IsReady l.machine a.pass) l.actors.items;
}
