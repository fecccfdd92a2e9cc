use Rattle.std.proofs.Common.{◌≡◌, []}
use Rattle.its_turns.specs.Machines.{view, IsOf}
use Rattle.held_parts.specs.Taking.{Goes}
use Rattle.cmd_engine.specs.Hands.{IsOfTranslator}
use Rattle.cmd_engine.proofs.writes.write_at.Given as goal

abbrev pub invariant-loop : goal.invariant-loop
invariant-loop g l =
    (goal.iterator-loop g).can_next l.iterator' × (goal.iterator-loop g).is_finite l.iterator' × IsOf l.machine l.pass
    × Goes (IsOfTranslator l.fn.its) (view l.fn.pass) (view l.pass) × ((view l.pass).held ≡ [])
