use Rattle.its_turns.specs.Machines.{view, IsOf}
use Rattle.held_parts.specs.Taking.{Waits}
use Rattle.held_parts.proofs.turns.wait_for.Given as goal

abbrev pub invariant-loop : goal.invariant-loop
invariant-loop g l = (goal.iterator-loop g).can_next l.iterator' × (goal.iterator-loop g).is_finite l.iterator' × IsOf l.machine l.pass
    × Waits (view l.fn.pass) (view l.pass)
