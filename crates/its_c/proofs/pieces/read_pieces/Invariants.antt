use Rattle.std.proofs.Common.{◌≡◌, length}
use Rattle.its_c.specs.Pieces.{AreRead}
use Rattle.its_c.proofs.pieces.read_pieces.Given as goal

-- the pieces so far are read
abbrev pub invariant-loop-i : goal.invariant-loop-i
invariant-loop-i l = record { length : length l.buffer ≡ l.count; read : AreRead l.memory l.address l.buffer l.i }
