use Rattle.its_turns.specs.Machines.{view, IsOf}
use Rattle.its_turns.specs.Steps.{IsSameButLost}
use Rattle.its_turns.proofs.turns.take.Given as goal

abbrev pub invariant-loop : goal.invariant-loop
invariant-loop g l =
    (goal.iterator-loop g).can_next l.iterator' × (goal.iterator-loop g).is_finite l.iterator' × IsOf l.machine l.pass × IsSameButLost (view l.fn.pass)
    (view l.pass)
