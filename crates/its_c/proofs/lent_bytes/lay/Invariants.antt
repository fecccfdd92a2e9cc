use Rattle.std.proofs.Common.{◌≡◌, length, true}
use Rattle.its_c.specs.LentBytes as spec
use Rattle.its_c.proofs.lent_bytes.lay.Given as goal

-- those that are laid and those that are left
abbrev pub invariant-loop-rest : goal.invariant-loop-rest
invariant-loop-rest l = record {
  fit : spec.stretches_fit l.rest (length l.left) ≡ true;
  laid : spec.laid l.memory l.rest l.left ≡ spec.laid l.initial.memory l.list l.bytes;
}

abbrev pub decreases-loop-rest : goal.decreases-loop-rest
decreases-loop-rest l = length l.rest
