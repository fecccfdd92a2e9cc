use Rattle.its_plain.specs.Doorbells.{route_of}
use Rattle.its_turns.specs.Calls.{Stays}
use Rattle.its_turns.specs.Machines.{view, IsOf}
use Rattle.device_port.specs.Dmas.{Got}
use Rattle.device_port.proofs.writes.dma.Given as goal

abbrev pub invariant-loop : goal.invariant-loop
invariant-loop g l =
    (goal.iterator-loop g).can_next l.iterator' × (goal.iterator-loop g).is_finite l.iterator' × IsOf l.machine l.pass × Stays (view l.fn.pass) (view l.pass)
    × Got (view l.fn.pass) (route_of l.machine.desc l.req l.addr.0 l.bytes) (view l.pass)
