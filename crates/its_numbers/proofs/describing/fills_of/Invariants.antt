use Rattle.std.proofs.Common.{◌≡◌, ◌++◌, length, true}
use Rattle.its_numbers.specs.Descriptions as spec
use Rattle.its_numbers.proofs.describing.fills_of.Given as goal

-- those that are made and those that are left
abbrev pub invariant-loop-rest : goal.invariant-loop-rest
invariant-loop-rest l = record {
  fit : spec.lengths_fit l.rest (length l.left) ≡ true;
  made : l.list ++ spec.fills_of l.rest l.left ≡ spec.fills_of l.fills l.bytes;
}

abbrev pub decreases-loop-rest : goal.decreases-loop-rest
decreases-loop-rest l = length l.rest
