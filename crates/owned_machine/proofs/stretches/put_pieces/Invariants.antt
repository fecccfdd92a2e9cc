use Rattle.std.proofs.Common.{◌≡◌}
use Rattle.owned_machine.specs.Pieces.{with_pieces}
use Rattle.owned_machine.proofs.stretches.put_pieces.Given as goal

-- the pieces so far are written
abbrev pub invariant-loop-i : goal.invariant-loop-i
invariant-loop-i l = l.memory ≡ with_pieces l.initial.memory l.address l.bytes l.i
