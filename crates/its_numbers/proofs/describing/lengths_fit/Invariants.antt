use Rattle.std.proofs.Common.{◌≡◌, length}
use Rattle.its_numbers.specs.Descriptions as spec
use Rattle.its_numbers.proofs.describing.lengths_fit.Given as goal

-- the fills that are left take what is left
abbrev pub invariant-loop-rest : goal.invariant-loop-rest
invariant-loop-rest l = spec.lengths_fit l.rest l.left ≡ spec.lengths_fit l.fills l.bytes

abbrev pub decreases-loop-rest : goal.decreases-loop-rest
decreases-loop-rest l = length l.rest
