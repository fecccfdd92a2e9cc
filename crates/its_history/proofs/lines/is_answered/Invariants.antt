use Rattle.std.proofs.Common.{◌≡◌, length}
use Rattle.its_history.specs.Reading.{is_answered}
use Rattle.its_history.proofs.lines.is_answered.Given as goal

abbrev pub invariant-loop-rest : goal.invariant-loop-rest
invariant-loop-rest l = is_answered l.rest ≡ is_answered l.text

abbrev pub decreases-loop-rest : goal.decreases-loop-rest
decreases-loop-rest l = length l.rest
