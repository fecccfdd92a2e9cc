use Rattle.its_c.specs.Pieces.{AreInside}
use Rattle.its_c.proofs.pieces.are_inside.Given as goal

-- the pieces so far lie in windows
abbrev pub invariant-loop-i : goal.invariant-loop-i
invariant-loop-i l = AreInside l.memory l.address l.count l.i
