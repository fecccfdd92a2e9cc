use Rattle.std.proofs.Common.{◌≡◌}
use Rattle.its_turns.specs.Machines.{setup, view, IsOf}
use Rattle.script_threads.proofs.Legs.{Going}
use Rattle.script_threads.proofs.leg.run_leg.Given as goal

abbrev pub invariant-loop-threads : goal.invariant-loop-threads
invariant-loop-threads g l = IsOf l.machine l.root × Going (setup l.machine) l.phases l.threads-index l.lists.items (view l.root) × (l.number ≡ l.threads-index)
