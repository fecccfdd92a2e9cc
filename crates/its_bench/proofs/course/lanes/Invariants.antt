use Rattle.std.specs.Prelude.{◌≡◌, ◌+◌}
use Rattle.std.specs.List.{AllByRecursion}
use Rattle.its_turns.specs.Machines.{view}
use Rattle.its_bench.specs.Ready.{IsReady, IsRoot}
use Rattle.its_bench.proofs.course.lanes.Given as goal

abbrev pub invariant-loop-dev : goal.invariant-loop-dev
invariant-loop-dev l = record {
  root : IsRoot l.machine l.root;
  made : (view l.root).root.made ≡ 2 + l.dev-index;
  lanes : AllByRecursion (λ lane. IsReady l.machine lane.pass) l.lanes.items;
}
