use Rattle.its_turns.specs.Calls.{StillAsks}
use Rattle.its_turns.specs.Machines.{setup, view, IsOf}
use Rattle.gicr_lpi.specs.Accesses.{access, IsOfWrite}
use Rattle.gicr_lpi.proofs.writes.write_gicr.Given as goal

abbrev pub invariant-loop : goal.invariant-loop
invariant-loop g l =
    (goal.iterator-loop g).can_next l.iterator' × (goal.iterator-loop g).is_finite l.iterator' × IsOf l.machine l.pass × StillAsks
    (IsOfWrite (setup l.machine) (access l.fn.vcpu l.fn.off l.fn.size l.fn.value)) (view l.fn.pass) (view l.pass)
