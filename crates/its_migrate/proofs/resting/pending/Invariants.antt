use Rattle.std.proofs.Common.{◌≡◌, map, take}
use Rattle.its_turns.specs.Machines.{view, IsOf}
use Rattle.its_migrate.specs.Resting.{Rests, resting}
use Rattle.its_migrate.proofs.Pendings.{lpis_in, pending_in}
use Rattle.its_migrate.proofs.resting.pending.Given as goal

abbrev pub invariant-loop-vcpu : goal.invariant-loop-vcpu
invariant-loop-vcpu l =
    IsOf l.machine l.root × Rests (view l.fn.root)
    (view l.root) × (map lpis_in l.lists ≡ map pending_in (take l.vcpu (resting l.machine l.fn.root).redistributors))
