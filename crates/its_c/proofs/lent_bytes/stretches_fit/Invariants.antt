use Rattle.std.proofs.Common.{◌≡◌, length}
use Rattle.its_c.specs.LentBytes as spec
use Rattle.its_c.proofs.lent_bytes.stretches_fit.Given as goal

-- the stretches that are left take what is left
abbrev pub invariant-loop-rest : goal.invariant-loop-rest
invariant-loop-rest l = spec.stretches_fit l.rest l.left ≡ spec.stretches_fit l.list l.bytes

abbrev pub decreases-loop-rest : goal.decreases-loop-rest
decreases-loop-rest l = length l.rest
