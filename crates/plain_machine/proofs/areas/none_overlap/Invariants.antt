use Rattle.std.proofs.Common.{◌≡◌, length}
use Rattle.its_plain.specs.Regions as spec
use Rattle.plain_machine.proofs.areas.none_overlap.Given as goal

abbrev pub invariant-loop-rest : goal.invariant-loop-rest
invariant-loop-rest l = spec.none_overlap l.rest ≡ spec.none_overlap l.areas

abbrev pub decreases-loop-rest : goal.decreases-loop-rest
decreases-loop-rest l = length l.rest
