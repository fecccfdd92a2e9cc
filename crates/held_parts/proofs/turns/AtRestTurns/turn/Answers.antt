use Rattle.std.proofs.Common.{sym, subst}
use Rattle.its_turns.specs.Told.{IsLone}
use Rattle.held_parts.proofs.turns.AtRestTurns.turn.Goals as goal

pub returns-clause-allowed : goal.returns-clause-allowed
returns-clause-allowed c = let t = c.in-Ok.ensures.result in subst IsLone (sym t.view) c.requires.allowed
